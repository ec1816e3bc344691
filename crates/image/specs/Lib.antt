pub mod Image
pub mod working
