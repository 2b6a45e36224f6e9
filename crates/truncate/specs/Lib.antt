pub mod Truncate
pub mod Promises
