pub mod FieldLaws
pub mod MappingLaws
pub mod ByteLaws
