-- What of a slab is to be written, and what became durable.
use Rattle.std.specs.Prelude.{ℕ, ◌≡◌, ◌+◌, ◌*◌, ◌<◌, ◌≤◌, ◌⊎◌, [], ◌∷◌, ◌++◌, List, length, max}
use Rattle.blk_base.specs.Counters.{sectors_per_slab}
use Rattle.blk_base.specs.Limits.{IsGeometry}
use Rattle.blk_base.specs.Regions.{references_of}
use Rattle.blk_base.specs.declared.geometry.Geometry.{Geometry}
use Rattle.blk_base.specs.declared.journal_entry.Update.{Update}
use Rattle.blk_base.specs.declared.point.Point.{Point}
use Rattle.dirty_pages.specs.DirtyPoints.{IsBeingWritten, dirty_points_at}
use Rattle.reference_blocks.specs.References.{References, points_of, point_at, updated, written}
use Rattle.reference_blocks.specs.References as references
use Rattle.slab_journal.specs.Slab.{Slab, IsOfSlab, IsWriting, entry_of}
use Rattle.slab_journal.specs.Slab as journals
use Rattle.slab_writes.specs.declared.forms.SlabPart.{SlabPart}
use Rattle.slab_writes.specs.declared.forms.SlabPart.TheVariants as part
use Rattle.slab_writes.specs.declared.forms.SlabWork.{SlabWork}

-- the updates of a slab in its journal, and what its reference blocks are to say
pub record Writes : Type 0 where
  pub journal : Slab
  pub blocks : References

-- how the slab with this number is opened: nothing is to be written
abbrev pub opening : Geometry → ℕ → List Point → Writes
opening g slab commits = record { journal = journals.opening g slab; blocks = references.opening g (points_of g slab commits) }

-- an update was taken
abbrev pub taken : Writes → Update → Writes
taken w update =
    record {
      journal = record w.journal { filling = w.journal.filling ++ entry_of w.journal update ∷ []; last = update.point };
      blocks = updated w.blocks (entry_of w.journal update).offset update.point;
    }

-- a block was handed out to be written, and that isn't reported yet
abbrev pub IsOutAs : SlabPart → ℕ → Writes → Type 0
IsOutAs part.Journal number w = IsWriting w.journal × (number ≡ w.journal.durable)
IsOutAs part.References number w = IsBeingWritten (dirty_points_at w.blocks.blocks number)

abbrev pub IsOut : Writes → SlabWork → Type 0
IsOut w work = IsOutAs work.part work.number w

-- the commit points of the sectors from this one on, up to that one, are at least those that were handed out
pub record Raises (handed old : List Point) (first end : ℕ) (new : List Point) : Type 0 where
  pub size : length new ≡ length old
  pub inside : (n : ℕ) → first ≤ n → n < end → n < length old → (point_at new n).0 ≡ max (point_at old n).0 (point_at handed n).0
  pub outside : (n : ℕ) → (n < first ⊎ end ≤ n) → point_at new n ≡ point_at old n

-- the write of a reference block is durable, and so are the updates that its sectors have
pub record SettlesReference (old new : Writes) (number : ℕ) : Type 0 where
  pub raises : Raises old.blocks.handed old.journal.commits (8 * number) (8 * number + 8) new.journal.commits
  pub journal : new.journal ≡ record old.journal { commits = new.journal.commits }
  pub blocks : new.blocks ≡ written old.blocks number

-- the write of a block is durable
abbrev pub SettlesAs : SlabPart → ℕ → Writes → Writes → Type 0
SettlesAs part.Journal number old new = new ≡ record old { journal = record old.journal { durable = number + 1 } }
SettlesAs part.References number old new = SettlesReference old new number

abbrev pub Settles : Writes → Writes → SlabWork → Type 0
Settles old new work = SettlesAs work.part work.number old new

-- what is true at every moment of what is to be written of the slab with this number
pub record IsKept (g : Geometry) (slab : ℕ) (w : Writes) : Type 0 where
  pub sizes : IsGeometry g
  pub inside : slab < g.slabs
  pub journal : (w.journal.geometry ≡ g) × (w.journal.slab ≡ slab)
  pub commits : length w.journal.commits ≡ sectors_per_slab g
  pub blocks : w.blocks.geometry ≡ g
  pub applied : length w.blocks.applied ≡ sectors_per_slab g
  pub dirty_points : length w.blocks.blocks ≡ references_of g
