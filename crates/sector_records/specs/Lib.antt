pub mod SectorBytes
