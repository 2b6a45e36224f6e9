pub mod Comments
pub mod Promises
