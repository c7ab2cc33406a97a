pub mod LockedNames
pub mod Operations
