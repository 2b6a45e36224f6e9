pub mod Joins
pub mod Promises
