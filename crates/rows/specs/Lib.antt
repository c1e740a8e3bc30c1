pub mod Members
pub mod Counts
pub mod Steps
