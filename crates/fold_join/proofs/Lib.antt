pub mod Bare
pub mod Tails
pub mod Asked
pub mod Joining
