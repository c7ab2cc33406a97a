pub mod References
pub mod Updates
pub mod Viewed
