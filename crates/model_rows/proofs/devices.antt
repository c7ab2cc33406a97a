pub mod CausePins
pub mod ImageRows
pub mod LookedRows
pub mod PickRows
pub mod RamRows
pub mod SincePins
pub mod StreamPins
