-- The window of an image: what its recovery journal says since the oldest block that is still needed. `journal` has the
-- journal's blocks in the order of their slots; the block with sequence m stands in slot m mod J.
use Rattle.std.specs.Prelude.{ℕ, suc, ◌≡◌, ◌⊎◌, ◌+◌, ◌<◌, ◌≤◌, ◌^◌, Bool, IsTrue, List, [], ◌∷◌, ◌++◌, length, reverse, get_or, All}
use Rattle.blk_base.specs.Points.{point_of}
use Rattle.blk_base.specs.Regions.{IsDataBlock, journal_slot_of}
use Rattle.blk_base.specs.Sectors.{sector, zero_block}
use Rattle.blk_base.specs.declared.geometry.Geometry.{Geometry}
use Rattle.blk_base.specs.declared.journal_entry.CommittedEntry.{CommittedEntry}
use Rattle.blk_base.specs.declared.journal_entry.Entry.{Entry}
use Rattle.blk_base.specs.declared.journal_entry.Entry.TheVariants.{Remap, NewPage}
use Rattle.blk_base.specs.declared.place.Mapping.{Mapping}
use Rattle.blk_base.specs.declared.place.Mapping.TheVariants.{Unmapped, Zero, At}
use Rattle.blk_base.specs.declared.point.Half.TheVariants.{Increment}
use Rattle.journal_codec.specs.Grammar.{IsSector, IsPrefix}
use Rattle.image_model.specs.Pages.{IsBelowRoot}

-- What stands in the journal.

-- the block in the slot of a sequence
abbrev pub in_slot : Geometry → List (List ℕ) → ℕ → List ℕ
in_slot g journal sequence = get_or journal (journal_slot_of g sequence) zero_block

-- the block of a sequence is there: sector 0 of its slot is valid and has the sequence; it names this head
abbrev pub IsThere : Geometry → List (List ℕ) → ℕ → ℕ → Type 0
IsThere g journal sequence head = (entries : List Entry) × IsSector g.nonce 0 (sector 0 (in_slot g journal sequence)) sequence head entries

-- the block of a sequence is there, and these are the entries of its prefix; it may be whole
abbrev pub HasEntries : Geometry → List (List ℕ) → ℕ → List Entry → Bool → Type 0
HasEntries g journal sequence entries whole = (head : ℕ) × IsPrefix g.nonce (in_slot g journal sequence) sequence head entries whole

-- From where to where.

-- The last sequence: the greatest one in reach of the session's first that the journal has, or the one before that first
-- where it has none.
pub record IsLast (g : Geometry) (start : ℕ) (journal : List (List ℕ)) (last : ℕ) : Type 0 where
  pub there : (last + 1 ≡ start) ⊎ ((start ≤ last) × (last < start + 2 ^ 32) × ((head : ℕ) × IsThere g journal last head))
  pub none : (sequence head : ℕ) → start ≤ sequence → last < sequence → sequence < start + 2 ^ 32 → IsThere g journal sequence head → ⊥

-- The first sequence: the head that the last block names. Where the journal has no block it is behind the last one, so that
-- there are none.
abbrev pub IsFirst : Geometry → ℕ → List (List ℕ) → ℕ → ℕ → Type 0
IsFirst g start journal last first = ((last + 1 ≡ start) × (first ≡ start)) ⊎ ((start ≤ last) × IsThere g journal last first)

-- What the blocks say.

-- it leads to no block, or to a data block
abbrev pub LeadsToData : Geometry → Mapping → Type 0
LeadsToData g Unmapped = Unit {0}
LeadsToData g Zero = Unit {0}
LeadsToData g (At x) = IsDataBlock g x.0

-- an entry of this image: of an address below the logical size or of a page that may be linked, with data blocks alone
abbrev pub IsOfImage : Geometry → Entry → Type 0
IsOfImage g (Remap at old new) = (at.0 < g.logical) × LeadsToData g old × LeadsToData g new
IsOfImage g (NewPage page at) = IsBelowRoot g page × IsDataBlock g at.0

-- The block of a sequence can be replayed, and has these entries: it is there, all of it but where it is the last one, and
-- each entry of its prefix is of this image.
pub record IsReplayable (g : Geometry) (journal : List (List ℕ)) (last sequence : ℕ) (entries : List Entry) : Type 0 where
  pub whole : Bool
  pub has : HasEntries g journal sequence entries whole
  pub complete : sequence < last → IsTrue whole
  pub each : All (IsOfImage g) entries

-- each block can be replayed, from the first sequence on; their entries, those of the newest block first
abbrev pub AreReplayable : Geometry → List (List ℕ) → ℕ → ℕ → List (List Entry) → Type 0
AreReplayable g journal last first [] = Unit {0}
AreReplayable g journal last first (entries ∷ older) =
    IsReplayable g journal last (first + length older) entries × AreReplayable g journal last first older

-- the entries of a block with their points, from this number on
abbrev pub with_points : ℕ → ℕ → List Entry → List CommittedEntry
with_points sequence number [] = []
with_points sequence number (entry ∷ entries) =
    record { entry = entry; point = record { 0 = point_of sequence number Increment } } ∷ with_points sequence (suc number) entries

-- the entries of all blocks with their points, the newest first
abbrev pub entries_from : ℕ → List (List Entry) → List CommittedEntry
entries_from first [] = []
entries_from first (entries ∷ older) = reverse (with_points (first + length older) 0 entries) ++ entries_from first older

-- The window.

-- the entries of the blocks from the first to the last, the newest first
pub record IsWindow (g : Geometry) (start : ℕ) (journal : List (List ℕ)) (last : ℕ) (window : List CommittedEntry) : Type 0 where
  pub is_last : IsLast g start journal last
  pub first : ℕ
  pub is_first : IsFirst g start journal last first
  pub blocks : List (List Entry)
  pub count : first + length blocks ≡ last + 1
  pub replayable : AreReplayable g journal last first blocks
  pub entries : window ≡ entries_from first blocks

-- there is no window, since the block of this sequence is the first one of it that can't be replayed
pub record IsFaulty (g : Geometry) (start : ℕ) (journal : List (List ℕ)) (sequence : ℕ) : Type 0 where
  pub last : ℕ
  pub is_last : IsLast g start journal last
  pub first : ℕ
  pub is_first : IsFirst g start journal last first
  pub inside : (first ≤ sequence) × (sequence ≤ last)
  pub bad : (entries : List Entry) → IsReplayable g journal last sequence entries → ⊥
  pub good : (earlier : ℕ) → first ≤ earlier → earlier < sequence → (entries : List Entry) × IsReplayable g journal last earlier entries
