pub mod Piece
pub mod Next
pub mod Joined
pub mod Planning
