pub mod Applied
pub mod Steps
pub mod Promises
