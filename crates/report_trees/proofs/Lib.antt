pub mod Counts
pub mod AddUp
pub mod Totals
pub mod Orders
