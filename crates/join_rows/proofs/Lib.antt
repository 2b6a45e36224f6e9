pub mod Moving
pub mod Turning
