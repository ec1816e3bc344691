pub mod State
pub mod Examining
pub mod Gap
