pub mod BookLaws
pub mod AdviceLaws
pub mod TableLaws
mod BookRows
mod AdviceRows
