pub mod Window
pub mod Texts
