pub mod CachedPages
pub mod Index
pub mod Turns
pub mod Frames
pub mod Runs
