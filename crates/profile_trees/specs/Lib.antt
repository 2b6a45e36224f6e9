pub mod Rules
pub mod Profile
pub mod First
pub mod Promises
