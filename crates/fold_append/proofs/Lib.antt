pub mod Empty
pub mod Appending
