pub mod Keys
pub mod Order
pub mod Known
pub mod Runs
pub mod Soundness
pub mod Dates
mod Determined
mod RuledOut
