pub mod Choice
pub mod Calls
pub mod working
