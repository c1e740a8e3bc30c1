pub mod Sessions
pub mod Happenings
