pub mod Sealed
pub mod Rings
pub mod Shown
pub mod Mapped
