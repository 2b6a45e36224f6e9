pub mod Promises
pub mod Shifted
