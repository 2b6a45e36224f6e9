pub mod Followed
pub mod Growing
pub mod Laws
pub mod Samples
