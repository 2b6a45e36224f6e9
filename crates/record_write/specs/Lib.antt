pub mod Writing
pub mod Tokens
