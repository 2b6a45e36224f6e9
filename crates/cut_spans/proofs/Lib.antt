pub mod Kept
pub mod Outside
