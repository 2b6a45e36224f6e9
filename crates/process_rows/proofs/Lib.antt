pub mod Places
pub mod Alone
pub mod Walked
pub mod Turns
