pub mod Listed
pub mod Entries
pub mod Numbers
pub mod FoundLists
pub mod Counted
pub mod Applied
