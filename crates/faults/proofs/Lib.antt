pub mod Named
pub mod Labels
pub mod Lists
pub mod Soundness
pub mod FirstFault
pub mod Parts
pub mod Walking
mod Cases
mod Determined
mod RuledOut
