pub mod PageBytes
pub mod Grammar
pub mod Runs
