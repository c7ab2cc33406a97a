mod GateLaws
pub mod Rows
