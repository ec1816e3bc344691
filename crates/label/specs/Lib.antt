pub mod Calendar
pub mod Time
pub mod Label
pub mod Standard
pub mod Calls
