pub mod Promises
pub mod Operand
