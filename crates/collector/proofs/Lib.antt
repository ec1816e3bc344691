pub mod Collecting
mod Parameters
mod Lent
mod Determined
mod RuledOut
