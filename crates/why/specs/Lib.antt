pub mod Naming
pub mod Asking
pub mod Told
pub mod InImage
pub mod Stated
