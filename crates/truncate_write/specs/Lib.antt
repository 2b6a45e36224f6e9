pub mod Truncated
pub mod Promises
