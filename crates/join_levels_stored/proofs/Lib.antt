pub mod Opened
pub mod Totals
