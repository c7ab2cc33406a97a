pub mod ReceiptLaws
pub mod NumberLaws
pub mod OneAnswer
mod Rows
mod NumberRows
mod OperationRows
