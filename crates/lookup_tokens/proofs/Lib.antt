pub mod Answered
pub mod Handed
pub mod TokensStored
