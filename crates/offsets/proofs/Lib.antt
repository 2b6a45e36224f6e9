pub mod Deciding
pub mod RoundTrips
