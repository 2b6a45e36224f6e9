pub mod Over
pub mod Writing
