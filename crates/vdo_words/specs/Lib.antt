pub mod Given
pub mod Options
pub mod OptionMatches
pub mod Commands
pub mod Ranges
pub mod Refused
