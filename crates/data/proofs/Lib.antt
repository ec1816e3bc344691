pub mod Messages
pub mod Written
pub mod Portions
mod Determined
mod RuledOut
