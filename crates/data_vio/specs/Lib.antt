pub mod Zones
pub mod Held
pub mod Phases
pub mod Vios
pub mod AnswerRooms
pub mod Beginnings
