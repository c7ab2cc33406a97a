pub mod PointLaws
pub mod PartLaws
pub mod NumberLaws
pub mod WindowLaws
pub mod SortLaws
pub mod AppliedLaws
pub mod Rows
pub mod SettledLaws
