pub mod Unbroken
pub mod Falls
pub mod Until
pub mod Lookup
pub mod Needed
