pub mod Labels
pub mod Images
pub mod working
