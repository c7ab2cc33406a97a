pub mod Rooms
pub mod Places
pub mod Loads
pub mod Looks
pub mod Tags
pub mod Held
