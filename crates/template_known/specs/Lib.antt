pub mod Promises
pub mod Known
