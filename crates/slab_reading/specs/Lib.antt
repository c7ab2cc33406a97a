pub mod Slabs
pub mod Reads
pub mod Found
