pub mod Promises
pub mod Size
