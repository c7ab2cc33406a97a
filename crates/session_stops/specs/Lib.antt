pub mod Pages
pub mod Beginnings
pub mod Sessions
pub mod Closings
