-- The pages of the block map while a session goes on, by what each of their blocks may hold after a stop.
use Rattle.std.specs.Prelude.{ℕ, ◌≡◌, ◌<◌, List, replicate, Some, None}
use Rattle.std.specs.List.{AllByRecursion}
use Rattle.blk_base.specs.declared.journal_entry.CommittedEntry.{CommittedEntry}
use Rattle.blk_base.specs.declared.journal_entry.Entry.{Entry}
use Rattle.blk_base.specs.declared.journal_entry.Entry.TheVariants.{Remap, NewPage}
use Rattle.blk_base.specs.declared.place.Mapping.{Mapping}
use Rattle.blk_base.specs.declared.place.Mapping.TheVariants.{Unmapped}
use Rattle.blk_base.specs.declared.place.PageId.{PageId}
use Rattle.blk_base.specs.declared.place.Pbn.{Pbn}
use Rattle.blk_base.specs.declared.sizes.TheConstants.{PAGE_SLOTS}
use Rattle.disk_model.specs.declared.call.Call.{Call}
use Rattle.disk_model.specs.Log.{Blocks, Misses, settled}
use Rattle.image_model.specs.Maps.{Image, head_of, put_last}
use Rattle.page_codec.specs.Grammar.{HasHead, IsPage, IsSlot}
use Rattle.page_codec.specs.declared.forms.PageHead.{PageHead}
use Rattle.vdo_model.specs.Journals.{Surely}
use Rattle.journal_stops.specs.Mapped.{page_after, slot_after}

-- once all is flushed, whatever stands in a block has this property
abbrev pub Settles : Blocks → List Call → ℕ → (List ℕ → Type 0) → Type 0
Settles opening log b P = AllByRecursion P (settled opening log b)

-- Pages.

-- a slot of a page says this, whatever a stop leaves
abbrev pub SlotStands : Blocks → List Call → PageHead → ℕ → Mapping → Type 0
SlotStands opening log head slot mapping = Surely opening log head.at.0 (λ content. IsSlot head content slot mapping)

-- The page says, in each slot that the window leaves to it, what the entries give: bytes of a page's block.
pub record SaysTheRest (opened : Image) (entries window : List CommittedEntry) (page : PageId) (at : Pbn) (bytes : List ℕ) : Type 0 where
  pub headed : HasHead (head_of opened page at) bytes
  pub slots : (slot : ℕ) → slot < PAGE_SLOTS → put_last window page slot ≡ None
      → IsSlot (head_of opened page at) bytes slot (slot_after opened entries page slot)

-- The page stands at this block, whatever a stop leaves: it begins as it should, and says what the entries give in each slot
-- that the window leaves to it.
pub record PageStands (opening : Blocks) (log : List Call) (opened : Image) (entries window : List CommittedEntry) (page : PageId) (at : Pbn) : Type 0 where
  pub headed : Surely opening log at.0 (HasHead (head_of opened page at))
  pub slots : (slot : ℕ) → slot < PAGE_SLOTS → put_last window page slot ≡ None
      → SlotStands opening log (head_of opened page at) slot (slot_after opened entries page slot)

-- each page that the entries leave linked stands
abbrev pub PagesStand : Blocks → List Call → Image → List CommittedEntry → List CommittedEntry → Type 0
PagesStand opening log opened entries window =
    (page : PageId) (at : Pbn) → page_after opened entries page ≡ Some at → PageStands opening log opened entries window page at

-- New pages.

-- the page that an entry makes is an empty one, whatever a stop leaves
abbrev pub EmptyPageStands : Blocks → List Call → Image → Entry → Type 0
EmptyPageStands opening log opened (Remap at old new) = Unit {0}
EmptyPageStands opening log opened (NewPage page at) = Surely opening log at.0 (λ content. IsPage (head_of opened page at) content (replicate PAGE_SLOTS Unmapped))

-- each page that these entries make is
abbrev pub NewPagesStand : Blocks → List Call → Image → List CommittedEntry → Type 0
NewPagesStand opening log opened newer = AllByRecursion (λ (committed : CommittedEntry). EmptyPageStands opening log opened committed.entry) newer

-- a call doesn't write the block of the page that an entry makes
abbrev pub MissesNew : Call → Entry → Type 0
MissesNew call (Remap at old new) = Unit {0}
MissesNew call (NewPage page at) = Misses call at.0

-- The device.

-- each page that the entries leave linked is on a device of this size
abbrev pub ArePagesOnIt : Image → List CommittedEntry → ℕ → Type 0
ArePagesOnIt opened entries size = (page : PageId) (at : Pbn) → page_after opened entries page ≡ Some at → at.0 < size
