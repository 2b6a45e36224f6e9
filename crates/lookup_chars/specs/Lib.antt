pub mod Chars
pub mod Answers
