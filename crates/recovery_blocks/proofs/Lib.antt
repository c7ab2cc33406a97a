pub mod PatchLaws
pub mod CountLaws
pub mod Rows
