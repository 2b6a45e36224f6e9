pub mod Largest
pub mod Joined
pub mod Known
pub mod Given
pub mod Folding
pub mod Far
