-- Entries of the recovery journal that come in turn over an image that was opened, the newest first.
use Rattle.std.specs.Prelude.{ℕ, ◌≡◌, ◌⊎◌, ◌+◌, ◌<◌, List, [], ◌∷◌, Some, None}
use Rattle.blk_base.specs.Counters.{limit_of}
use Rattle.blk_base.specs.Regions.{IsDataBlock}
use Rattle.blk_base.specs.declared.journal_entry.CommittedEntry.{CommittedEntry}
use Rattle.blk_base.specs.declared.journal_entry.Entry.{Entry}
use Rattle.blk_base.specs.declared.journal_entry.Entry.TheVariants.{Remap, NewPage}
use Rattle.blk_base.specs.declared.place.Mapping.{Mapping}
use Rattle.blk_base.specs.declared.place.Mapping.TheVariants.{Unmapped, Zero, At}
use Rattle.blk_base.specs.declared.place.PageId.{PageId}
use Rattle.blk_base.specs.declared.place.Pbn.{Pbn}
use Rattle.blk_base.specs.Pages.{above, leaf_of}
use Rattle.image_model.specs.Counts.{mapped_below}
use Rattle.image_model.specs.Maps.{Image}
use Rattle.image_model.specs.Pages.{IsBelowRoot, address_count}
use Rattle.journal_stops.specs.Mapped.{mapping_after, page_after}

-- What stands after entries.

-- a page is linked
abbrev pub IsLinkedAfter : Image → List CommittedEntry → PageId → Type 0
IsLinkedAfter opened entries page = (at : Pbn) × (page_after opened entries page ≡ Some at)

-- a block has a linked page, which is no root
abbrev pub IsPageAfter : Image → List CommittedEntry → Pbn → Type 0
IsPageAfter opened entries block = (page : PageId) × (page.level + 1 < opened.geometry.height) × (page_after opened entries page ≡ Some block)

-- a block has as many mappings: those of all addresses, and one more where it has a linked page
pub record HasMappingsAfter (opened : Image) (entries : List CommittedEntry) (block : Pbn) (count : ℕ) : Type 0 where
  pub pages : ℕ
  pub one_page : ((pages ≡ 1) × IsPageAfter opened entries block) ⊎ ((pages ≡ 0) × (IsPageAfter opened entries block → ⊥))
  pub sum : count ≡ mapped_below (mapping_after opened entries) block (address_count opened.geometry) + pages

-- no address is mapped to a block, and no page stands there
pub record IsUnusedAfter (opened : Image) (entries : List CommittedEntry) (block : Pbn) : Type 0 where
  pub unmapped : (address : ℕ) → mapping_after opened entries address ≡ At block → ⊥
  pub no_page : IsPageAfter opened entries block → ⊥

-- no address is mapped to the block of a page
abbrev pub AreUnsharedAfter : Image → List CommittedEntry → Type 0
AreUnsharedAfter opened entries = (at : Pbn) (address : ℕ) → IsPageAfter opened entries at → mapping_after opened entries address ≡ At at → ⊥

-- The turns.

-- An address may be mapped so: to no block, or to a data block that has no page and fewer mappings than the limit.
abbrev pub MayLeadTo : Image → List CommittedEntry → Mapping → Type 0
MayLeadTo opened older Unmapped = Unit {0}
MayLeadTo opened older Zero = Unit {0}
MayLeadTo opened older (At block) =
    IsDataBlock opened.geometry block.0 × (IsPageAfter opened older block → ⊥)
    × ((count : ℕ) → HasMappingsAfter opened older block count → count < limit_of opened.geometry)

-- An entry comes in turn behind older ones. A remapping is of an address whose leaf is linked, and names what it had. A
-- new page isn't linked yet, the page above it is, and it stands at an unused data block.
abbrev pub ComesInTurn : Image → List CommittedEntry → Entry → Type 0
ComesInTurn opened older (Remap at old new) =
    (at.0 < opened.geometry.logical) × IsLinkedAfter opened older (leaf_of at.0) × (old ≡ mapping_after opened older at.0) × MayLeadTo opened older new
ComesInTurn opened older (NewPage page at) =
    IsBelowRoot opened.geometry page × IsLinkedAfter opened older (above page) × (page_after opened older page ≡ None)
    × IsDataBlock opened.geometry at.0 × IsUnusedAfter opened older at

-- each entry comes in turn
abbrev pub AreInTurn : Image → List CommittedEntry → Type 0
AreInTurn opened [] = Unit {0}
AreInTurn opened (committed ∷ older) = ComesInTurn opened older committed.entry × AreInTurn opened older
