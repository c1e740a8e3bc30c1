pub mod Faults
pub mod Layout
pub mod Reading
pub mod Loading
pub mod Saving
pub mod Calls
pub mod Runs
