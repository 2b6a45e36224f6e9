pub mod Deciding
pub mod Sizes
