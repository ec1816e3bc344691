pub mod Found
pub mod NextReply
pub mod Groups
pub mod Collected
pub mod SixObjects
mod Determined
mod RuledOut
