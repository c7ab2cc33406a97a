pub mod States
pub mod Newest
pub mod Replays
pub mod Windows
pub mod Reads
