-- The updates that an entry of the journal makes, as a list.
use Rattle.std.specs.Prelude.{ℕ, ◌+◌, List, [], ◌∷◌, ◌++◌, Option, Some, None}
use Rattle.blk_base.specs.declared.journal_entry.CommittedEntry.{CommittedEntry}
use Rattle.blk_base.specs.declared.journal_entry.Entry.{Entry}
use Rattle.blk_base.specs.declared.journal_entry.Entry.TheVariants.{Remap, NewPage}
use Rattle.blk_base.specs.declared.journal_entry.Update.{Update}
use Rattle.blk_base.specs.declared.place.Pbn.{Pbn}
use Rattle.image_model.specs.Maps.{target_of}

-- the block that an entry maps once more, and the one that it maps once less
abbrev pub added_block : Entry → Option Pbn
added_block (Remap at old new) = target_of new
added_block (NewPage page at) = Some at

abbrev pub taken_block : Entry → Option Pbn
taken_block (Remap at old new) = target_of old
taken_block (NewPage page at) = None

-- an update of a block, if there is one
abbrev pub update_at : Option Pbn → ℕ → List Update
update_at None point = []
update_at (Some at) point = record { at = at; point = record { 0 = point } } ∷ []

-- what an entry makes: one is added at its point, one is taken away at the next point
abbrev pub updates_in : CommittedEntry → List Update
updates_in committed = update_at (added_block committed.entry) committed.point.0 ++ update_at (taken_block committed.entry) (committed.point.0 + 1)
