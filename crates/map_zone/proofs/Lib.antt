pub mod KeepLaws
pub mod StepLaws
pub mod OperationLaws
pub mod ShownLaws
pub mod OneLaws
pub mod OutLaws
pub mod Rows
pub mod WritingRows
