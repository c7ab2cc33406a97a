-- What stands of a session on its device, at rest and while a block of the recovery journal is under way, and what an image
-- shows of it.
use Rattle.std.specs.Prelude.{ℕ, ◌≡◌, ◌⊎◌, ◌+◌, ◌<◌, ◌≤◌, ◌^◌, [], ◌∷◌, List, Contains, length, Some, None}
use Rattle.std.specs.List.{AllByRecursion}
use Rattle.blk_base.specs.Regions.{ReferenceBlock, SlabJournalSlot, IsPlace, block_of}
use Rattle.blk_base.specs.declared.geometry.Geometry.{Geometry}
use Rattle.blk_base.specs.declared.geometry.Super.{Super}
use Rattle.blk_base.specs.declared.journal_entry.CommittedEntry.{CommittedEntry}
use Rattle.blk_base.specs.declared.layout.DataPlace.{DataPlace}
use Rattle.blk_base.specs.declared.place.Mapping.{Mapping}
use Rattle.blk_base.specs.declared.place.PageId.{PageId}
use Rattle.blk_base.specs.declared.place.Pbn.{Pbn}
use Rattle.blk_base.specs.declared.sizes.TheConstants.{JOURNAL_ENTRIES, PAGE_SLOTS}
use Rattle.disk_model.specs.declared.call.Call.{Call}
use Rattle.disk_model.specs.Log.{Blocks}
use Rattle.image_model.specs.Maps as maps
use Rattle.image_model.specs.Maps.{Image, put_last}
use Rattle.image_model.specs.Sound.{IsDataPlace, IsSound}
use Rattle.journal_stops.specs.Mapped.{ShowsEntries, page_after}
use Rattle.journal_stops.specs.Rings.{IsAtRest, IsUnderWay}
use Rattle.journal_stops.specs.Sealed.{Sealed, entries_of, head_of, next_of, since, window_of}
use Rattle.count_laws.specs.Counters.{CountsStand, UpdateStands, points_at}
use Rattle.count_laws.specs.Turns.{AreInTurn}
use Rattle.session_stops.specs.Beginnings.{HeadStands, IsToServe, opened_in}
use Rattle.session_stops.specs.Pages.{NewPagesStand, PagesStand, SlotStands}

-- Entries of sealed blocks.

-- the entries of the blocks from a head on
abbrev pub window_from : ℕ → ℕ → List Sealed → List CommittedEntry
window_from start head blocks = entries_of head (since start head blocks)

-- the entries of the next block
abbrev pub entries_next : ℕ → List Sealed → Sealed → List CommittedEntry
entries_next start blocks block = entries_of (next_of start blocks) (block ∷ [])

-- each block has at most as many entries as a block of the journal holds
abbrev pub AreFew : List Sealed → Type 0
AreFew blocks = AllByRecursion (λ (block : Sealed). length block.entries ≤ JOURNAL_ENTRIES) blocks

-- What stands.

-- What stands besides the journal, for an image whose window begins at this head or before it: the superblock of the session,
-- the pages but for what the window says, and the counts. The entries came in turn, and the session's blocks are in reach.
pub record IsBehind (opening : Blocks) (log : List Call) (base : Blocks) (to : IsToServe base) (blocks : List Sealed) (head : ℕ) : Type 0 where
  pub size : length opening ≡ length base
  pub super : HeadStands opening log base to
  pub reach : length blocks + 1 < 2 ^ 18
  pub few : AreFew blocks
  pub turns : AreInTurn (opened_in base to) (entries_of to.sound.head.start blocks)
  pub pages : PagesStand opening log (opened_in base to) (entries_of to.sound.head.start blocks) (window_from to.sound.head.start head blocks)
  pub counts : CountsStand opening log (opened_in base to) (entries_of to.sound.head.start blocks) (window_from to.sound.head.start head blocks)

-- No block of the journal is under way.
pub record StandsAtRest (opening : Blocks) (log : List Call) (base : Blocks) (to : IsToServe base) (blocks : List Sealed) : Type 0 where
  pub journal : IsAtRest opening log to.sound.head.geometry to.sound.head.start blocks
  pub behind : IsBehind opening log base to blocks (head_of to.sound.head.start blocks)

-- One is: what it lets go of stands without it, its entries come in turn, and the pages that they make stand empty.
pub record StandsUnderWay (opening : Blocks) (log : List Call) (base : Blocks) (to : IsToServe base) (blocks : List Sealed) (block : Sealed) : Type 0 where
  pub journal : IsUnderWay opening log to.sound.head.geometry to.sound.head.start blocks block
  pub behind : IsBehind opening log base to blocks block.head
  pub turns : AreInTurn (opened_in base to) (entries_of to.sound.head.start (block ∷ blocks))
  pub made : NewPagesStand opening log (opened_in base to) (entries_next to.sound.head.start blocks block)

-- The head may rise to here: a slot into which only entries before it put something stands, and each update that the window
-- has stands by the later window, by the counters or by a slab's journal.
pub record MayRise (opening : Blocks) (log : List Call) (base : Blocks) (to : IsToServe base) (blocks : List Sealed) (later : ℕ) : Type 0 where
  pub low : head_of to.sound.head.start blocks ≤ later
  pub high : later ≤ next_of to.sound.head.start blocks
  pub slots : (page : PageId) (at : Pbn) (slot : ℕ) (mapping : Mapping) → page_after (opened_in base to) (entries_of to.sound.head.start blocks) page ≡ Some at
      → slot < PAGE_SLOTS → put_last (window_from to.sound.head.start later blocks) page slot ≡ None
      → put_last (window_of to.sound.head.start blocks) page slot ≡ Some mapping → SlotStands opening log (maps.head_of (opened_in base to) page at) slot mapping
  pub updates : (place : DataPlace) (point : ℕ) → IsDataPlace to.sound.head.geometry place
      → Contains (points_at to.sound.head.geometry (window_of to.sound.head.start blocks) place) point
      → UpdateStands opening log to.sound.head.geometry (window_from to.sound.head.start later blocks) place point

-- Where calls write.

-- no linked page stands at a block
abbrev pub HasNoPage : Image → List CommittedEntry → Pbn → Type 0
HasNoPage opened entries block = (page : PageId) (at : Pbn) → page_after opened entries page ≡ Some at → block.0 ≡ at.0 → ⊥

-- a block of counters, or one of a slab's journal
abbrev pub IsOfCounts : Geometry → ℕ → Type 0
IsOfCounts g b =
    ((slab : ℕ) × (i : ℕ) × IsPlace g (ReferenceBlock slab i) × (block_of g (ReferenceBlock slab i) ≡ b))
    ⊎ ((slab : ℕ) × (slot : ℕ) × IsPlace g (SlabJournalSlot slab slot) × (block_of g (SlabJournalSlot slab slot) ≡ b))

-- What an image shows.

-- An image shows these entries on top of the opened one, and is sound; it has this superblock.
pub record ShowsSoundly (opened : Image) (head : Super) (image : Blocks) (entries : List CommittedEntry) : Type 0 where
  pub sound : IsSound image
  pub is_head : sound.head ≡ head
  pub shows : ShowsEntries opened head.start image entries
  pub same : shows.shown.window ≡ sound.window
