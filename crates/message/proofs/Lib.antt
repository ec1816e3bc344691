pub mod Table
pub mod Headers
pub mod Requests
pub mod Mirror
mod Determined
mod RuledOut
