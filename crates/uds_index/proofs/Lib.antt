pub mod RoomLaws
pub mod BookLaws
pub mod SearchLaws
mod CacheLaws
pub mod LookRows
mod TagRows
pub mod ListLaws
pub mod PlaceLaws
pub mod KeepLaws
mod AddLaws
mod LoadLaws
mod LoadRows
pub mod AskLaws
mod AskRows
mod FindRows
mod HeldRows
