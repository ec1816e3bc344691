pub mod History
pub mod Invariant
pub mod Sides
pub mod Noise
mod Example
