pub mod Decides
pub mod Lowest
pub mod Together
