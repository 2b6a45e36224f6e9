pub mod Levels
pub mod Promises
