pub mod Family
pub mod Frame
pub mod Controls
pub mod Writing
pub mod Calls
