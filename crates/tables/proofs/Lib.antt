pub mod EntryPlaces
pub mod HeaderTests
pub mod Packing
pub mod RoundTrips
pub mod Unpacking
pub mod WordBytes
