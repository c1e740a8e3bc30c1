pub mod Numbers
pub mod Verdicts
pub mod Showing
pub mod Arbitrated
pub mod Ordered
pub mod Passing
pub mod Stale
pub mod Within
