pub mod Books
pub mod Advices
pub mod Orders
pub mod Kept
pub mod Answers
