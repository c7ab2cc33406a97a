pub mod NameLaws
pub mod RecordLaws
pub mod PageLaws
pub mod FindLaws
mod ChapterRows
pub mod PageRows
