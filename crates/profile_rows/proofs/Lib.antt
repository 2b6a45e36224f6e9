pub mod RowHere
pub mod LastWord
pub mod OneRow
pub mod Checking
