pub mod Refusals
pub mod Operations
pub mod Stations
pub mod Lawful
pub mod Telling
pub mod Lookups
