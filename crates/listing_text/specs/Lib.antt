pub mod Promises
pub mod Text
