pub mod Limits
mod Stored
