pub mod Stretches
pub mod Shared
pub mod Stretching
