pub mod Grains
pub mod Table
pub mod Marks
