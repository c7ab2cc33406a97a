pub mod UpdateLaws
pub mod OutLaws
pub mod Rows
