pub mod Operations
pub mod Appending
