pub mod Counting
pub mod Naming
