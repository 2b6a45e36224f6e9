pub mod Ceiling
pub mod Windows
pub mod Laws
pub mod Decides
