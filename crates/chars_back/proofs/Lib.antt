pub mod Nth
pub mod Seeking
pub mod Back
