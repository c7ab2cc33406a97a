pub mod Hooks
pub mod Orders
pub mod Lookups
pub mod Keeps
pub mod Finds
