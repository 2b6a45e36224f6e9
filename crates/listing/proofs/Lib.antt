mod Samples
pub mod Choosing
pub mod Lines
pub mod Back
