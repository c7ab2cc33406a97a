pub mod UnsettledRows
pub mod LowLaws
pub mod SlabLaws
pub mod SealLaws
pub mod SlabRows
pub mod KeptRows
