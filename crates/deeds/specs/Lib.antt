pub mod Deeds
pub mod Calls
