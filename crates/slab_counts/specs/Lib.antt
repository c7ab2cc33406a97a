pub mod Counts
pub mod Kept
pub mod Viewed
pub mod Operations
