pub mod Acts
pub mod Done
pub mod Outcomes
pub mod Recoveries
pub mod Openings
pub mod Again
