pub mod Faults
pub mod Superblock
pub mod Values
pub mod Opened
pub mod PossibleSizes
