mod ActLaws
mod BlockEntries
mod Calls
mod NoticeLaws
mod ZeroSlotLaws
