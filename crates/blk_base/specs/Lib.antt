pub mod Sectors
pub mod SectorLaws
pub mod Points
pub mod Limits
pub mod Counters
pub mod Regions
pub mod Pages
pub mod Forms
