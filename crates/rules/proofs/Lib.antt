pub mod Searching
pub mod Rules
pub mod Decided
mod Determined
mod RuledOut
