pub mod Sizes
pub mod Kept
pub mod Calls
pub mod NewAddresses
pub mod Searches
pub mod Growth
