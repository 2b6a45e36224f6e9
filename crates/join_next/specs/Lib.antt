pub mod Next
pub mod Promises
