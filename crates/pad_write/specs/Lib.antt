pub mod Promises
pub mod Padded
