pub mod ListingLaws
pub mod FoundLaws
pub mod EnteredLaws
pub mod SharedSums
pub mod UsedLaws
pub mod ReportLaws
pub mod ReportRows
