pub mod Calendar
pub mod Time
pub mod Label
pub mod Instant
mod Parts
mod Standard
pub mod Order
mod Determined
mod RuledOut
