pub mod Sealed
pub mod Frame
pub mod Judging
pub mod Controls
pub mod Writing
pub mod RoundTrip
pub mod OneOctet
mod Determined
mod RuledOut
