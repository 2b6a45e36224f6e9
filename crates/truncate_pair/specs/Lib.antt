pub mod CutPair
pub mod Promises
