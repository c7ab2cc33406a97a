pub mod FrontLaws
pub mod FileLaws
pub mod ReadLaws
pub mod MemoryLaws
pub mod FileRows
pub mod OpenLaws
pub mod OpenRows
