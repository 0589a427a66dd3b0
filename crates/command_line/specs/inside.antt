pub mod ArgumentSpelling
pub mod StoredNumbers
