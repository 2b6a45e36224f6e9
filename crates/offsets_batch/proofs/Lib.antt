pub mod Plain
pub mod Written
