pub mod Shifts
pub mod Blocks
