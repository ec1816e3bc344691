pub mod History
pub mod Noise
