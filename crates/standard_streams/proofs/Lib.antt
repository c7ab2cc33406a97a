pub mod WriteLaws
pub mod WriteRows
