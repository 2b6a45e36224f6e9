pub mod Process
pub mod Promises
