pub mod Pages
pub mod Windows
pub mod Maps
pub mod Counts
pub mod Sound
pub mod Faults
pub mod Empty
pub mod Looked
