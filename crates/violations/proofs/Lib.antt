pub mod Decisions
pub mod Deciding
pub mod Seeking
pub mod Between
