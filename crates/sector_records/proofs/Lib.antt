pub mod SectorLaws
