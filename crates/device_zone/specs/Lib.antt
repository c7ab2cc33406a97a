pub mod DeviceCalls
pub mod Served
