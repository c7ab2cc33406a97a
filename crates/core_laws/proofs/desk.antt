pub mod BeginLaws
pub mod DeskFacts
