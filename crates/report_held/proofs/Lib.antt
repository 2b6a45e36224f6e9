pub mod Reports
pub mod Settling
pub mod Samples
pub mod Files
