pub mod Acts
pub mod DeviceLog
pub mod Rules
pub mod ZoneSizes
