pub mod JournalFacts
pub mod LogLaws
pub mod LoggedEntries
pub mod PageEntries
pub mod SealedBlocks
pub mod SealLaws
