pub mod Promises
pub mod Last
