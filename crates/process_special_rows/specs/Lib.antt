pub mod Lengthened
pub mod Promises
