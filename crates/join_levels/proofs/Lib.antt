pub mod Profiles
pub mod Limits
