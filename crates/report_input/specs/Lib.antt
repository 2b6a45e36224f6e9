pub mod Promises
pub mod Fed
