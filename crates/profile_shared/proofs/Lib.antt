pub mod Counting
pub mod Sharing
