pub mod Codes
pub mod Book
pub mod LookUp
pub mod Answers
pub mod EventNames
pub mod Wrong
pub mod working
