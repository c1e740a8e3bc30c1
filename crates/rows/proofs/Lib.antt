pub mod Bit
pub mod Rows
pub mod Sizes
