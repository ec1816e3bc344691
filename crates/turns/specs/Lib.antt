pub mod Printed
pub mod Turned
pub mod Steps
