pub mod CountRows
pub mod EmptyRows
pub mod FaultRows
pub mod LookedRows
pub mod MapRows
pub mod SoundRows
pub mod WholeRows
pub mod WindowRows
