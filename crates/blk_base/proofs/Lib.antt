pub mod RegionLaws
pub mod SectorLaws
pub mod PageIdLaws
pub mod Example
mod PageRows
