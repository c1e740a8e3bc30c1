pub mod Says
pub mod Words
