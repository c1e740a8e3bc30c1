pub mod Meaning
pub mod Spelling
pub mod RoundTrip
pub mod Runs
