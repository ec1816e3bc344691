pub mod Character
pub mod Profile
pub mod Altered
