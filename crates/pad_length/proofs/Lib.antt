pub mod Rounding
pub mod Searching
pub mod Summing
