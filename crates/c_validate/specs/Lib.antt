pub mod Answers
pub mod Options
