pub mod Fields
pub mod Mappings
