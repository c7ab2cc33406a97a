pub mod Bounds
pub mod DeskLimits
pub mod FullLogs
pub mod PlaceLimits
pub mod Rooms
pub mod StillLogs
pub mod Stillness
pub mod StreamSums
pub mod WholeZones
pub mod ZoneLimits
mod MakingLimits
mod PageLimits
mod ReadLimits
pub mod UpdateSums
pub mod StrayLimits
mod TicketLimits
