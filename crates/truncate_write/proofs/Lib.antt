pub mod Cutting
pub mod Fineness
pub mod Placing
pub mod Sizes
