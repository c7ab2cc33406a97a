-- When a sector of the journal is valid, and what the prefix of a block is.
use Rattle.std.specs.Prelude.{ℕ, zero, suc, ◌≡◌, ◌*◌, ◌<◌, ◌≤◌, ◌^◌, ◌↔◌, ◌⊎◌, Bool, IsTrue, List, [], ◌++◌, length, All}
use Rattle.blk_base.specs.declared.place.Mapping.TheVariants.{At}
use Rattle.blk_base.specs.declared.journal_entry.Entry.{Entry}
use Rattle.blk_base.specs.declared.journal_entry.Entry.TheVariants.{Remap, NewPage}
use Rattle.blk_base.specs.Sectors.{sector}
use Rattle.blk_base.specs.declared.sizes.TheConstants.{JOURNAL_ENTRIES, TREES}
use Rattle.byte_fields.specs.Mappings.{HoldsMapping}
use Rattle.journal_codec.specs.BlockBytes.{sector_bytes, entries_in}

-- what the form can hold: mappings, and a new page of one of the trees
abbrev pub HoldsEntry : Entry → Type 0
HoldsEntry (Remap at old new) = (at.0 < 2 ^ 32) × HoldsMapping old × HoldsMapping new
HoldsEntry (NewPage page at) = (page.tree < TREES) × (page.level < 2 ^ 8) × (page.index < 2 ^ 32) × HoldsMapping (At at)

-- a sequence is below 2 ^ 55 and not 0, and no head is above it
pub record HoldsBlock (sequence head : ℕ) (entries : List Entry) : Type 0 where
  pub named : (1 ≤ sequence) × (sequence < 2 ^ 55)
  pub head_below : head ≤ sequence
  pub few : length entries ≤ JOURNAL_ENTRIES
  pub each : All HoldsEntry entries

-- The 512 bytes are a valid sector with this number, and say this sequence, this head and these entries: they are
-- spelled so, and are of a kind that the form holds.
pub record IsSector (nonce number : ℕ) (bytes : List ℕ) (sequence head : ℕ) (entries : List Entry) : Type 0 where
  pub spelled : bytes ≡ sector_bytes nonce sequence head number entries
  pub named : (1 ≤ sequence) × (sequence < 2 ^ 55)
  pub head_below : head ≤ sequence
  pub few : length entries ≤ 24
  pub each : All HoldsEntry entries

-- they are no valid sector of this sequence
abbrev pub IsNoSector : ℕ → ℕ → List ℕ → ℕ → Type 0
IsNoSector nonce number bytes sequence = (head : ℕ) (entries : List Entry) → IsSector nonce number bytes sequence head entries → ⊥

-- The first `count` sectors of a block are valid, have this sequence and head, and these entries fill them one after the
-- other: so behind a sector with fewer than 24 there is none.
pub record IsRun (nonce : ℕ) (block : List ℕ) (sequence head count : ℕ) (entries : List Entry) : Type 0 where
  pub fits : length entries ≤ 24 * count
  pub sectors : (i : ℕ) → i < count → IsSector nonce i (sector i block) sequence head (entries_in i entries)

-- lists one behind the other, the first n of them
abbrev pub joined : ℕ → (ℕ → List Entry) → List Entry
joined zero lists = []
joined (suc n) lists = joined n lists ++ lists n

-- The prefix of a block: its longest run, of at least one sector. The block is whole where that is all eight.
pub record IsPrefix (nonce : ℕ) (block : List ℕ) (sequence head : ℕ) (entries : List Entry) (whole : Bool) : Type 0 where
  pub count : ℕ
  pub range : (1 ≤ count) × (count ≤ 8)
  pub run : IsRun nonce block sequence head count entries
  pub longest : (more_count : ℕ) (more : List Entry) → more_count ≤ 8 → IsRun nonce block sequence head more_count more → more_count ≤ count
  pub all : IsTrue whole ↔ (count ≡ 8)

-- a block after a stop within its write: each sector is the new one, or none of this sequence
abbrev pub IsTorn : ℕ → ℕ → List ℕ → List ℕ → Type 0
IsTorn nonce sequence new block = (i : ℕ) → i < 8 → (sector i block ≡ sector i new) ⊎ IsNoSector nonce i (sector i block) sequence
