pub mod Naming
pub mod Asking
pub mod Told
pub mod InImage
pub mod Telling
pub mod Stated
mod Determined
mod RuledOut
