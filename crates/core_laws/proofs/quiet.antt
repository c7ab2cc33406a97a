pub mod CutRuns
pub mod FlushImages
pub mod MappedRows
pub mod Quiet
pub mod StillCore
pub mod TakenAlone
