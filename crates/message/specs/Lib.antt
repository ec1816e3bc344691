pub mod Headers
pub mod Requests
pub mod Table
pub mod Mirror
pub mod Calls
