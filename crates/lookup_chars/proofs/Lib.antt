pub mod CharLaws
pub mod TokenLaws
pub mod CharsStored
pub mod Answered
