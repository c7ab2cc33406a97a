pub mod ImageLaws
pub mod WindowLaws
pub mod LimitLaws
pub mod Rows
pub mod ReadRows
