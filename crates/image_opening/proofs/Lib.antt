pub mod HeadLaws
pub mod HeadRows
