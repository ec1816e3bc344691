pub mod Address
mod Determined
mod Equality
