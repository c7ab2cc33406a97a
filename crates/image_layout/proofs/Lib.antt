pub mod CheckLaws
pub mod SpellingLaws
pub mod AgainLaws
pub mod PlanLaws
