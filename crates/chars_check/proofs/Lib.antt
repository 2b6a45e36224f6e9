pub mod Longs
pub mod Passing
