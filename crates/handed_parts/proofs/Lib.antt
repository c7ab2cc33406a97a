pub mod PartLaws
pub mod Rows
