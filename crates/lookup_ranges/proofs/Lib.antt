pub mod Column
pub mod First
pub mod Marking
pub mod Ranges
pub mod Samples
pub mod Top
