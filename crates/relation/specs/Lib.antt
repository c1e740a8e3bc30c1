pub mod Steps
pub mod Orders
pub mod Found
