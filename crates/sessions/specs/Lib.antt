pub mod Listings
pub mod Happening
pub mod Deriving
