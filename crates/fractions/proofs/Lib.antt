pub mod Divisors
pub mod LowestTerms
