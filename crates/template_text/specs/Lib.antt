pub mod Template
pub mod Comes
pub mod Used
pub mod Promises
