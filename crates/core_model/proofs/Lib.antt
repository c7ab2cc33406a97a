pub mod ListForms
pub mod ZoneSetLaws
pub mod PortLaws
mod ReportLaws
pub mod LockLaws
pub mod CountLaws
pub mod FairLaws
pub mod TreeLinks
pub mod ZoneForms
pub mod WorkedTraces
