pub mod Keeping
pub mod Shares
pub mod Sum
