pub mod Writes
pub mod Due
pub mod Operations
pub mod Commits
pub mod Viewed
