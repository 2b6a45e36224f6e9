pub mod Lent
pub mod Checking
pub mod NotSix
pub mod Deciding
