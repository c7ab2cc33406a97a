pub mod Turns
pub mod Points
pub mod RunningCount
pub mod Counters
pub mod Closed
pub mod Strays
