pub mod FieldLaws
pub mod ReadLaws
pub mod PrefixLaws
