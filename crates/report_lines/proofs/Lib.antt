mod Samples
pub mod Lines
