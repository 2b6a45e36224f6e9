pub mod Lists
pub mod Stretch
