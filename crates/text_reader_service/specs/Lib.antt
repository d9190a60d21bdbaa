pub mod TextReader
pub mod RoundTrips
