pub mod Join
pub mod Alike
pub mod Offsets
pub mod Outcomes
pub mod Samples
