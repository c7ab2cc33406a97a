pub mod ZoneMap
pub mod Lookups
pub mod PageWrites
pub mod Operations
