mod ActLaws
mod PageLaws
mod ServedLaws
mod SettlingLaws
mod TreeLaws
mod WaitingLaws
mod ZeroLaws
