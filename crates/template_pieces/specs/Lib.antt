pub mod Piece
pub mod Promises
