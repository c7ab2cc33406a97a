mod Moves
mod RunLaws
mod ZoneActs
