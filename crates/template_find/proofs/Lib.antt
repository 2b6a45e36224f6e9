pub mod Bytes
pub mod Finding
pub mod Found
pub mod Last
