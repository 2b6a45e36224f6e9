pub mod Falling
pub mod Sides
pub mod Going
pub mod Joined
pub mod Walk
pub mod RowTurns
pub mod WindowTurns
