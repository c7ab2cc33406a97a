pub mod SpellingLaws
pub mod ReadLaws
pub mod HeadLaws
pub mod TornLaws
pub mod HeldLaws
mod RunLaws
mod WriteLaws
mod RunRows
