pub mod Parity
pub mod Judging
pub mod Altered
mod Examples
mod Determined
mod RuledOut
