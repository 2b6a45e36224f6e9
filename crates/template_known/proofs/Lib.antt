pub mod Both
pub mod Knowing
