pub mod Names
pub mod Chapters
pub mod Pages
pub mod Finds
