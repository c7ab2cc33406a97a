pub mod TurnLaws
mod TraceRows
mod TurnRows
