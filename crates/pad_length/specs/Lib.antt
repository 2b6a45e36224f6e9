pub mod Rounding
pub mod Target
