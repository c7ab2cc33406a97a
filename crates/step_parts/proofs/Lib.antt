pub mod DevicePins
pub mod SilentLaws
pub mod SlabLaws
