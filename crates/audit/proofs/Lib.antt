pub mod TallyLaws
pub mod ReportLaws
pub mod AuditLaws
pub mod Rows
pub mod ReadExample
mod AcceptedRows
mod DeviceRows
pub mod DifferRows
mod SharedRows
