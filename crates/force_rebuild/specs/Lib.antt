pub mod Rebuildable
pub mod Kept
pub mod Written
pub mod Calls
pub mod Starts
pub mod Counted
pub mod Outcomes
pub mod ForcedRebuild
