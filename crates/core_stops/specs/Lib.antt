pub mod Logs
pub mod Sequences
pub mod Ends
