pub mod Pair
pub mod Whole
pub mod Cutting
