pub mod Holding
pub mod Placed
pub mod Samples
