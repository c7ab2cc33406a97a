pub mod Slab
pub mod Unsettled
pub mod Kept
pub mod Viewed
