pub mod Promises
pub mod Counting
pub mod Sequences
