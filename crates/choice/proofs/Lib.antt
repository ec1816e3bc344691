pub mod Chosen
pub mod Laws
pub mod Range
mod Determined
mod RuledOut
