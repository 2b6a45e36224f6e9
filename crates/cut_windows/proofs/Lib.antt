pub mod Heads
pub mod Parts
pub mod Going
pub mod Gathering
