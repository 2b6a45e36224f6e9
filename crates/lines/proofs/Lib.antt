mod Reading
mod Samples
pub mod Digits
pub mod Moves
