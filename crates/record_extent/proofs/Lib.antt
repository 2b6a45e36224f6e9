pub mod Passing
pub mod Room
pub mod Stands
pub mod Pair
