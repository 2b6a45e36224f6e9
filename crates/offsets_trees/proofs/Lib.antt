pub mod Converted
pub mod RoundTrips
