pub mod Turning
pub mod Steps
pub mod Reading
mod Determined
mod RuledOut
