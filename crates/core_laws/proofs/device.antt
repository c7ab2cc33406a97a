pub mod DeviceCalls
pub mod LeafReads
pub mod DeviceFacts
