pub mod Addresses
pub mod Copies
pub mod Cuts
pub mod Maps
pub mod Values
pub mod Shows
