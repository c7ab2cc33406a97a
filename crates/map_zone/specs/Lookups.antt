-- What a zone's map says of an address, and what applying an entry and installing a leaf make of it.
use Rattle.std.specs.Prelude.{ℕ, ◌≡◌, ◌<◌, ◌%◌, ◌⊎◌, List, slice_index_or}
use Rattle.blk_base.specs.declared.sizes.TheConstants.{PAGE_SLOTS}
use Rattle.blk_base.specs.declared.journal_entry.Entry.{Entry}
use Rattle.blk_base.specs.declared.journal_entry.Entry.TheVariants.{NewPage, Remap}
use Rattle.blk_base.specs.declared.place.Mapping.{Mapping}
use Rattle.blk_base.specs.declared.place.Mapping.TheVariants.{Unmapped}
use Rattle.blk_base.specs.declared.place.PageId.{PageId}
use Rattle.blk_base.specs.declared.place.Pbn.{Pbn}
use Rattle.blk_base.specs.declared.point.Point.{Point}
use Rattle.blk_base.specs.Regions.{IsDataBlock}
use Rattle.blk_base.specs.Pages.{above, page_above, leaf_of}
use Rattle.page_codec.specs.Grammar.{HoldsMapping, IsPage, IsPageFault}
use Rattle.page_codec.specs.declared.fault.PageFault.{PageFault}
use Rattle.page_codec.specs.declared.forms.MapPage.{MapPage}
use Rattle.block_map_tree.specs.Pages.{IsTreeOf}
use Rattle.block_map_tree.specs.Tree.{IsAt, IsLinkable, IsThere, Links}
use Rattle.map_page_cache.specs.CachedPages.{Fills, GivesUp, HasNoFrame, IsAbsent, Sets}
use Rattle.map_page_cache.specs.CachedPages as cached
use Rattle.map_zone.specs.declared.forms.Applied.{Applied}
use Rattle.map_zone.specs.declared.forms.Applied.TheVariants as applied
use Rattle.map_zone.specs.declared.forms.Looked.{Looked}
use Rattle.map_zone.specs.declared.forms.Looked.TheVariants as looked
use Rattle.map_zone.specs.declared.forms.NotInstalled.{NotInstalled}
use Rattle.map_zone.specs.declared.forms.NotInstalled.TheVariants as refused
use Rattle.map_zone.specs.ZoneMap.{ZoneMap, head_at}

-- the address is below the logical size, and in one of the zone's trees
pub record IsOwn (m : ZoneMap) (address : ℕ) : Type 0 where
  pub inside : address < m.tree.forest.geometry.logical
  pub tree : IsTreeOf m.tree.forest (leaf_of address).tree

-- the leaf of the address is in memory, and its slot says this
pub record Shows (m : ZoneMap) (address : ℕ) (mapping : Mapping) : Type 0 where
  pub content : MapPage
  pub there : cached.IsThere m.cache (leaf_of address) content
  pub says : mapping ≡ slice_index_or content.mappings (address % PAGE_SLOTS) Unmapped

-- the leaf of the address stands at this block, and isn't in memory
pub record NeedsLeaf (m : ZoneMap) (address : ℕ) (page : PageId) (at : Pbn) : Type 0 where
  pub is_leaf : page ≡ leaf_of address
  pub stands : IsAt m.tree page at
  pub absent : IsAbsent m.cache page

-- the page of this level isn't linked, and each one above it is
pub record MissesPage (m : ZoneMap) (address level : ℕ) : Type 0 where
  pub low : level < m.tree.forest.geometry.height
  pub missing : IsThere m.tree (page_above level address) → ⊥
  pub above : (l : ℕ) → level < l → l < m.tree.forest.geometry.height → IsThere m.tree (page_above l address)

-- each page on the path of the address is linked
abbrev pub HasPath : ZoneMap → ℕ → Type 0
HasPath m address = (level : ℕ) → level < m.tree.forest.geometry.height → IsThere m.tree (page_above level address)

-- what is known of an address
abbrev pub IsLooked : ZoneMap → ℕ → Looked → Type 0
IsLooked m address (looked.Is mapping) = HasPath m address × Shows m address mapping
IsLooked m address (looked.NeedLeaf page at) = HasPath m address × NeedsLeaf m address page at
IsLooked m address (looked.NoPage level) = MissesPage m address level

-- the address is below the logical size and its leaf is linked, and a leaf can hold the mapping
pub record MayRemap (m : ZoneMap) (address : ℕ) (mapping : Mapping) : Type 0 where
  pub inside : address < m.tree.forest.geometry.logical
  pub linked : IsThere m.tree (leaf_of address)
  pub held : HoldsMapping m.tree.forest.geometry 0 mapping

-- the page may be linked, isn't yet, and is to stand at a data block
pub record MayAddPage (m : ZoneMap) (page : PageId) (at : Pbn) : Type 0 where
  pub linkable : IsLinkable m.tree page
  pub above : IsThere m.tree (above page)
  pub missing : IsThere m.tree page → ⊥
  pub block : IsDataBlock m.tree.forest.geometry at.0

-- the entry may be applied
abbrev pub MayApply : ZoneMap → Entry → Type 0
MayApply m (Remap at before now) = MayRemap m at.0 now
MayApply m (NewPage page at) = MayAddPage m page at

-- the slot of the address is mapped so, by the entry of this point
pub record Remaps (old new : ZoneMap) (address : ℕ) (mapping : Mapping) (point : Point) : Type 0 where
  pub sets : Sets old.cache new.cache (leaf_of address) (address % PAGE_SLOTS) mapping point
  pub after : new ≡ record old { cache = new.cache }

-- the page is linked at this block, by the entry of this point
pub record AddsPage (old new : ZoneMap) (page : PageId) (at : Pbn) (point : Point) : Type 0 where
  pub links : Links old.tree new.tree page at point
  pub after : new ≡ record old { tree = new.tree }

-- what became of an entry: an entry for a new page never needs a leaf
abbrev pub Applies : ZoneMap → ZoneMap → Entry → Point → Applied → Type 0
Applies old new (Remap at before now) point applied.Done = Remaps old new at.0 now point
Applies old new (Remap at before now) point (applied.NeedLeaf page block) = NeedsLeaf old at.0 page block × (new ≡ old)
Applies old new (NewPage page at) point applied.Done = AddsPage old new page at point
Applies old new (NewPage page at) point (applied.NeedLeaf leaf block) = ⊥

-- a linked leaf that isn't in memory
pub record MayInstall (m : ZoneMap) (page : PageId) : Type 0 where
  pub level : page.level ≡ 0
  pub linked : IsThere m.tree page
  pub absent : IsAbsent m.cache page

-- the leaf is in memory as these bytes say, in an empty frame or in that of a clean one
pub record Installs (old new : ZoneMap) (page : PageId) (bytes : List ℕ) : Type 0 where
  pub at : Pbn
  pub mappings : List Mapping
  pub stands : IsAt old.tree page at
  pub read : IsPage (head_at old page at) bytes mappings
  pub fills : let content : MapPage = record { head = head_at old page at; mappings = mappings } in Fills old.cache new.cache content ⊎ GivesUp old.cache new.cache content
  pub after : new ≡ record old { cache = new.cache }

-- the bytes aren't those of the leaf at its block, for this fault
pub record IsOtherPage (m : ZoneMap) (page : PageId) (bytes : List ℕ) (fault : PageFault) : Type 0 where
  pub at : Pbn
  pub stands : IsAt m.tree page at
  pub has_fault : IsPageFault (head_at m page at) bytes fault

-- the bytes are those of the leaf, and every frame has a page that is dirty or being written
pub record IsTooMany (m : ZoneMap) (page : PageId) (bytes : List ℕ) : Type 0 where
  pub at : Pbn
  pub mappings : List Mapping
  pub stands : IsAt m.tree page at
  pub read : IsPage (head_at m page at) bytes mappings
  pub none : HasNoFrame m.cache

-- why the leaf isn't installed: its bytes come first
abbrev pub IsRefused : ZoneMap → PageId → List ℕ → NotInstalled → Type 0
IsRefused m page bytes (refused.Page fault) = IsOtherPage m page bytes fault
IsRefused m page bytes refused.NoFrame = IsTooMany m page bytes
