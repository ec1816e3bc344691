pub mod Rules
pub mod Decide
pub mod Calls
