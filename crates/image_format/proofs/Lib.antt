pub mod RunLaws
pub mod StopLaws
pub mod AfterLaws
pub mod FormatLaws
mod FormatRows
mod MadeRows
mod StopRows
