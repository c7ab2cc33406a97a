mod ActLaws
mod Oldest
