pub mod Records
pub mod Said
pub mod Places
mod Determined
mod RuledOut
