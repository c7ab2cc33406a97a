-- Runs of a zone's map: its calls from the newest back to the oldest.
use Rattle.std.specs.Prelude.{ℕ, ◌≡◌, ◌≢◌, ◌%◌, ◌⊎◌, ◌==◌, if◌then◌else◌, List, [], ◌∷◌, slice_index_or}
use Rattle.blk_base.specs.declared.geometry.Geometry.{Geometry}
use Rattle.blk_base.specs.declared.sizes.TheConstants.{PAGE_SLOTS}
use Rattle.blk_base.specs.declared.journal_entry.Entry.{Entry}
use Rattle.blk_base.specs.declared.journal_entry.Entry.TheVariants.{NewPage, Remap}
use Rattle.blk_base.specs.declared.place.Mapping.{Mapping}
use Rattle.blk_base.specs.declared.place.Mapping.TheVariants.{Unmapped}
use Rattle.blk_base.specs.declared.place.PageId.{PageId}
use Rattle.blk_base.specs.declared.place.Pbn.{Pbn}
use Rattle.blk_base.specs.declared.point.Point.{Point}
use Rattle.dirty_pages.specs.History.{Changed, Event, HandedOut, Written}
use Rattle.page_codec.specs.Grammar.{IsPage}
use Rattle.page_codec.specs.declared.forms.MapPage.{MapPage}
use Rattle.blk_base.specs.Pages.{above, leaf_of}
use Rattle.plain_laws.specs.Leads.{LeadsBy}
use Rattle.map_page_cache.specs.CachedPages.{IsThere}
use Rattle.map_zone.specs.declared.forms.Applied.TheVariants.{Done}
use Rattle.map_zone.specs.Lookups.{Applies, Installs, MayApply, MayInstall}
use Rattle.map_zone.specs.PageWrites.{IsOut, Settles, Takes}
use Rattle.map_zone.specs.ZoneMap.{ZoneMap}

-- An entry is applied; a leaf is installed as these bytes say; a page is handed out to be written, with its block and its
-- bytes; a page is reported as written. What needs a leaf first, or is refused, changes nothing and is no call here.
pub data Operation : Type 0 where
  Apply : Entry → Point → Operation
  Install : PageId → List ℕ → Operation
  HandOut : PageId → Pbn → List ℕ → Operation
  Write : PageId → Operation

-- no leaf is in memory
abbrev pub HasNoLeaf : ZoneMap → Type 0
HasNoLeaf m = (page : PageId) (content : MapPage) → IsThere m.cache page content → ⊥

-- a call leads from one map to another
abbrev pub Leads : ZoneMap → Operation → ZoneMap → Type 0
Leads old (Apply entry point) new = MayApply old entry × Applies old new entry point Done
Leads old (Install page bytes) new = MayInstall old page × Installs old new page bytes
Leads old (HandOut page at bytes) new = (point : Point) × Takes old new point page at bytes
Leads old (Write page) new = IsOut old page × Settles old new page

-- calls lead from one map to another
abbrev pub LeadTo : ZoneMap → List Operation → ZoneMap → Type 0
LeadTo old calls new = LeadsBy (λ call before after. Leads before call after) old calls new

-- the page that an entry changes: the leaf of its address, or the page above the new one
abbrev pub changed_by : Entry → PageId
changed_by (Remap at before now) = leaf_of at.0
changed_by (NewPage page at) = above page

-- what the calls do to pages; a leaf is installed as it is on the device
abbrev pub events_of : List Operation → List Event
events_of [] = []
events_of (Apply entry point ∷ calls) = Changed (changed_by entry) point ∷ events_of calls
events_of (Install page bytes ∷ calls) = events_of calls
events_of (HandOut page at bytes ∷ calls) = HandedOut page ∷ events_of calls
events_of (Write page ∷ calls) = Written page ∷ events_of calls

-- an entry linked the page at this block
abbrev pub HasLink : List Operation → PageId → Pbn → Type 0
HasLink [] page at = ⊥
HasLink (Apply (NewPage linked block) point ∷ calls) page at = ((linked ≡ page) × (block ≡ at)) ⊎ HasLink calls page at
HasLink (call ∷ calls) page at = HasLink calls page at

-- what an address is mapped to by the newest entry for it, where it was mapped so at first
abbrev pub mapped : (ℕ → Mapping) → List Operation → ℕ → Mapping
mapped first [] address = first address
mapped first (Apply (Remap at before now) point ∷ calls) address = if at.0 == address then now else mapped first calls address
mapped first (call ∷ calls) address = mapped first calls address

-- the bytes of a page as it was handed out last, or as they were at first
abbrev pub IsStored : (PageId → List ℕ) → List Operation → PageId → List ℕ → Type 0
IsStored first [] page bytes = bytes ≡ first page
IsStored first (HandOut out at given ∷ calls) page bytes = ((out ≡ page) × (bytes ≡ given)) ⊎ ((out ≢ page) × IsStored first calls page bytes)
IsStored first (call ∷ calls) page bytes = IsStored first calls page bytes

-- each leaf is read back as it was handed out last, or as it was at first
abbrev pub AreReadBack : (PageId → List ℕ) → List Operation → Type 0
AreReadBack first [] = Unit {0}
AreReadBack first (Install page bytes ∷ calls) = IsStored first calls page bytes × AreReadBack first calls
AreReadBack first (call ∷ calls) = AreReadBack first calls

-- of leaves of an image with these sizes, the bytes say these mappings of their addresses
abbrev pub SayOf : Geometry → (PageId → List ℕ) → (ℕ → Mapping) → Type 0
SayOf g bytes mapping =
    (page : PageId) (at : Pbn) (mappings : List Mapping) → IsPage (record { geometry = g; page = page; at = at }) (bytes page) mappings
    → (address : ℕ) → leaf_of address ≡ page → slice_index_or mappings (address % PAGE_SLOTS) Unmapped ≡ mapping address
