pub mod Inputs
pub mod Testing
