pub mod Deeds
mod Determined
mod RuledOut
