pub mod Passes
pub mod Track
pub mod Kept
pub mod Meets
pub mod Checked
mod Told
