pub mod Offset
pub mod Columns
pub mod Turning
