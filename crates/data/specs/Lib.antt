pub mod Messages
pub mod Portions
pub mod Calls
