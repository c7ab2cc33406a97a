pub mod PlaceLaws
pub mod SlabLaws
pub mod ZoneLaws
pub mod OpeningLaws
pub mod OperationLaws
pub mod ClaimLaws
pub mod PageNotes
pub mod Rows
pub mod UsedLaws
pub mod SlabSums
pub mod BlockLaws
pub mod OneAnswer
mod OperationRows
mod ViewRows
pub mod FreeBlocks
pub mod OpenedCounts
pub mod FitLaws
pub mod TicketLaws
