pub mod FirstLaws
pub mod ListLaws
pub mod OptionLaws
pub mod LeadLaws
mod LeadRows
