pub mod Windowless
pub mod Deciding
