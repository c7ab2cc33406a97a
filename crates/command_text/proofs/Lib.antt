pub mod FaultLaws
pub mod FaultRows
pub mod ImageRows
pub mod LayoutLaws
pub mod LineLaws
pub mod Numerals
pub mod SessionRows
pub mod TallyLaws
