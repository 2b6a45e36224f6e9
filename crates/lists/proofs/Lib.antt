pub mod FlatMap
pub mod Sets
pub mod Numbers
pub mod Writing
pub mod Parts
pub mod All
pub mod Written
pub mod Bits
