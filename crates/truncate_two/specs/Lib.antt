pub mod CutBoth
pub mod Promises
