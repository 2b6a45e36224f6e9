pub mod ByName
mod Colons
pub mod Lies
mod Names
