pub mod Parts
pub mod Answers
mod Determined
mod RuledOut
