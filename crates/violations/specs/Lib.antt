pub mod Explained
pub mod Violations
pub mod Views
pub mod Firsts
pub mod Overtaking
pub mod Sourceless
pub mod Tabled
