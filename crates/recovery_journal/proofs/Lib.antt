pub mod RingLaws
pub mod RisingLaws
pub mod JournalLaws
pub mod OpeningLaws
pub mod LogRows
mod KeptRows
