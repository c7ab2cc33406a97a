-- Which slot each page has.
use Rattle.std.specs.Prelude.{ℕ, ◌≡◌, ◌≢◌, ◌+◌, ◌⊎◌, List, [], length, Contains, AllPairs}
use Rattle.std.specs.declared.cmp.Ordering.TheVariants.{Less, Greater}
use Rattle.blk_base.specs.declared.place.PageId.{PageId}
use Rattle.blk_base.specs.Pages.{page_order}
use Rattle.map_page_cache.specs.declared.index.IndexEntry.{IndexEntry}

-- `room` is the greatest number of entries
pub record Index : Type 0 where
  pub room : ℕ
  pub entries : List IndexEntry

-- no page has a slot
abbrev pub no_entries : ℕ → Index
no_entries room = record { room = room; entries = [] }

-- the page has this slot
abbrev pub HasSlot : Index → PageId → ℕ → Type 0
HasSlot index page slot = Contains index.entries (record { page = page; slot = slot })

-- the page gets this slot, and all others keep theirs
pub record Adds (old new : Index) (page : PageId) (slot : ℕ) : Type 0 where
  pub room : new.room ≡ old.room
  pub count : length new.entries ≡ length old.entries + 1
  pub added : HasSlot new page slot
  pub kept : (other : PageId) (s : ℕ) → HasSlot old other s → HasSlot new other s
  pub only : (other : PageId) (s : ℕ) → HasSlot new other s → HasSlot old other s ⊎ ((other ≡ page) × (s ≡ slot))

-- the page has no slot any longer, and all others keep theirs
pub record Removes (old new : Index) (page : PageId) : Type 0 where
  pub room : new.room ≡ old.room
  pub count : length new.entries + 1 ≡ length old.entries
  pub gone : (s : ℕ) → HasSlot new page s → ⊥
  pub kept : (other : PageId) (s : ℕ) → other ≢ page → HasSlot old other s → HasSlot new other s
  pub only : (other : PageId) (s : ℕ) → HasSlot new other s → HasSlot old other s

-- the entries are in the order of their pages, no two of which are equal
abbrev pub AreInOrder : List IndexEntry → Type 0
AreInOrder entries = AllPairs (λ one other. page_order one.page other.page ≡ Less) entries

-- the entries of the pages before this one, and those of the pages behind it
abbrev pub IsBefore : PageId → IndexEntry → Type 0
IsBefore page entry = page_order entry.page page ≡ Less

abbrev pub IsBehind : PageId → IndexEntry → Type 0
IsBehind page entry = page_order entry.page page ≡ Greater
