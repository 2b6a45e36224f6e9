pub mod Steps
pub mod Folding
