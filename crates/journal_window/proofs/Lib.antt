pub mod SlotLaws
pub mod NewestLaws
pub mod ReplayLaws
pub mod PageLaws
pub mod AnswerLaws
pub mod ReadWindowLaws
pub mod Rows
pub mod ReadRows
