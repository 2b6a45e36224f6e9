pub mod Number
pub mod Promises
