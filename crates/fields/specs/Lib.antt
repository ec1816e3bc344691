pub mod Parts
pub mod working
pub mod Answers
pub mod Calls
