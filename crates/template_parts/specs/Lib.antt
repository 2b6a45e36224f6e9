pub mod Split
pub mod Parts
pub mod Promises
