pub mod Answered
pub mod WordLaws
pub mod WordsStored
