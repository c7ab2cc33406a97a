pub mod MinimaLaws
pub mod DirtyPointLaws
pub mod HistoryLaws
pub mod PageLists
pub mod Rows
pub mod DirtyPointRows
pub mod MinimaRows
pub mod HistoryRows
