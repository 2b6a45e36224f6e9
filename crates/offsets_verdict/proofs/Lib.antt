pub mod Deciding
pub mod Plain
