pub mod Promises
pub mod Holding
pub mod InSequence
