pub mod Longest
pub mod Outcomes
