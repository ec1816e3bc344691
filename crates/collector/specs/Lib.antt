pub mod Collecting
pub mod Damage
pub mod Calls
