pub mod Tokens
pub mod Sequence
