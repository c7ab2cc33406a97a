pub mod Zone
pub mod ZoneAnswers
pub mod Operations
pub mod ByBlock
pub mod Openings
pub mod Viewed
