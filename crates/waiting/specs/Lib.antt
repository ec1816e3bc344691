pub mod NextReply
pub mod Collected
