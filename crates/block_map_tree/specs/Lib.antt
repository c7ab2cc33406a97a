pub mod Pages
pub mod Tree
pub mod OpenedTree
pub mod History
