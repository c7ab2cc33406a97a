mod ActLaws
mod Begun
