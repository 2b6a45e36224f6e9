pub mod InPlace
pub mod Offsets
pub mod Seen
pub mod Node
