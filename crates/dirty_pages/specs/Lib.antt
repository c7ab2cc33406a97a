pub mod DirtyPoints
pub mod Minima
pub mod History
