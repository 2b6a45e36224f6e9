pub mod Deciding
pub mod Demand
