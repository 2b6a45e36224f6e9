pub mod Numbers
pub mod Passes
pub mod Samples
