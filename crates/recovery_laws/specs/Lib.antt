pub mod Kept
pub mod Written
pub mod Calls
pub mod Recoverable
