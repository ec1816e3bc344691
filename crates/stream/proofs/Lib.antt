pub mod Filling
mod Determined
mod RuledOut
