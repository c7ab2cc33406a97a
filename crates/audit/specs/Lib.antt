pub mod Tallies
pub mod Reports
pub mod Audits
pub mod Reads
