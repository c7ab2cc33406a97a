pub mod Lesser
pub mod Whole
pub mod ZoneWrites
pub mod Operations
pub mod Viewed
