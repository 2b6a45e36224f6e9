pub mod InTurn
pub mod Within
