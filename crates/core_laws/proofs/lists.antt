pub mod Between
pub mod Changes
pub mod CoreLists
pub mod CountedIn
pub mod Zeros
pub mod ZoneNames
