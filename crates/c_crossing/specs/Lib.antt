pub mod Crossing
pub mod Options
