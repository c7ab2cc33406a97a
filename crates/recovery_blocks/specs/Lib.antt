pub mod Patches
pub mod Counters
pub mod Spelled
