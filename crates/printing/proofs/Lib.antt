pub mod Text
pub mod Lines
mod Determined
mod RuledOut
