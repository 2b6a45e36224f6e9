pub mod Holding
pub mod InRange
pub mod Matches
pub mod Parts
pub mod Search
pub mod Stored
pub mod Words
