pub mod Utf8
pub mod Characters
pub mod Promises
