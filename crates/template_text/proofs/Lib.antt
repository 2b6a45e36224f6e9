mod Samples
pub mod Walked
pub mod Coming
pub mod Answers
pub mod Gathering
pub mod Pieces
pub mod Faults
