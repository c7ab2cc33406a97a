pub mod FreeLaws
pub mod OperationLaws
pub mod OpeningLaws
pub mod AnswerLaws
mod Rows
pub mod OpeningRows
mod OperationRows
mod ViewRows
