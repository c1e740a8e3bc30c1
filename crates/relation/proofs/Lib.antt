pub mod Extending
pub mod Places
pub mod Cycles
pub mod Loops
pub mod Reaching
