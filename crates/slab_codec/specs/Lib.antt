pub mod Reference
pub mod BlockBytes
pub mod Grammar
pub mod Lengths
pub mod Updates
