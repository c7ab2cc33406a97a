pub mod PlaceLaws
pub mod BelowLaws
pub mod PageLaws
pub mod ListedLaws
pub mod StartLaws
pub mod FormedLaws
pub mod Rows
