pub mod Pairs
pub mod Input
mod Determined
mod RuledOut
