pub mod DoneLaws
pub mod LinkLaws
pub mod PlayLaws
mod StartLaws
mod ZoneLaws
mod ConditionRows
mod CoreRows
mod FairRows
mod NoteRows
pub mod PlayRows
mod ToolRows
mod LaneLaws
pub mod StepLaws
pub mod SessionLaws
mod MoveLaws
pub mod NoteLaws
mod RestLaws
