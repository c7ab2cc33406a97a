pub mod StatusLaws
pub mod Rows
