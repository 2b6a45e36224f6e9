pub mod Promises
pub mod First
pub mod Ranges
