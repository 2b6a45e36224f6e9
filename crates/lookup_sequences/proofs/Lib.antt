pub mod Outcome
pub mod WayBack
