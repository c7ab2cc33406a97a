pub mod Holders
pub mod Operations
