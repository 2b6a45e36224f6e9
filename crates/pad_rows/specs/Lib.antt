pub mod Promises
pub mod NewRows
