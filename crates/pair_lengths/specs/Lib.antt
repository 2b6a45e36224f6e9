pub mod Lengths
pub mod Keeps
