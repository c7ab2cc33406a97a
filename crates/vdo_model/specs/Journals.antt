-- The blocks of the recovery journal, by what a stop may leave in them.
use Rattle.std.specs.Prelude.{ℕ, ◌+◌, ◌<◌, List}
use Rattle.std.specs.List.{AllByRecursion}
use Rattle.blk_base.specs.declared.geometry.Geometry.{Geometry}
use Rattle.disk_model.specs.declared.call.Call.{Call}
use Rattle.disk_model.specs.Log.{Blocks, Misses, contents}

-- whatever a stop leaves in a block, it has this property
abbrev pub Surely : Blocks → List Call → ℕ → (List ℕ → Type 0) → Type 0
Surely opening log b P = AllByRecursion P (contents opening log b)

-- the block of a slot of the journal
abbrev pub block_of_slot : ℕ → ℕ
block_of_slot slot = 1 + slot

-- a call that writes no block of the journal
abbrev pub MissesJournal : Geometry → Call → Type 0
MissesJournal g call = (slot : ℕ) → slot < g.journal → Misses call (block_of_slot slot)
