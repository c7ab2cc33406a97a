pub mod Rooms
pub mod Listed
pub mod Found
