pub mod Driven
pub mod Stepped
