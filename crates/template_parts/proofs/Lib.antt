mod Samples
pub mod Finding
pub mod Split
pub mod Parts
