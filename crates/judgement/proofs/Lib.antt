pub mod Recordings
pub mod Fronts
pub mod Arbitrating
pub mod Holding
pub mod Judging
pub mod Passings
pub mod Sessioning
pub mod Listing
