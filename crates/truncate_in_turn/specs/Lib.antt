pub mod TruncatePair
pub mod InTurn
