pub mod SectorLaws
pub mod TakeLaws
pub mod FoundLaws
pub mod Rows
pub mod ReadRows
