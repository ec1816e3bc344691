mod Calls
pub mod Stepping
pub mod Steps
mod Worked
mod Determined
mod RuledOut
