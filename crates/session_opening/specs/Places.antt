-- Where linked pages stand, by a list of links of which the newest stands first.
use Rattle.std.specs.Prelude.{ℕ, ◌≡◌, ◌+◌, ◌*◌, ◌^◌, ◌<◌, if◌then◌else◌, List, [], ◌∷◌, length, Option, Some, None, IsSome, Contains, slice_index_or}
use Rattle.std.specs.BTreeMap.{get}
use Rattle.std.specs.List.{AllPairs}
use Rattle.blk_base.specs.declared.place.Mapping.{Mapping}
use Rattle.blk_base.specs.declared.place.Mapping.TheVariants.{Unmapped, At}
use Rattle.blk_base.specs.declared.place.PageId.{PageId}
use Rattle.blk_base.specs.declared.place.Pbn.{Pbn}
use Rattle.blk_base.specs.declared.sizes.TheConstants.{PAGE_SLOTS}
use Rattle.image_model.specs.Pages.{is_page}
use Rattle.blk_base.specs.Pages.{page_below, page_order}
use Rattle.replay_map.specs.declared.links.Link.{Link}
use Rattle.session_opening.specs.declared.places.Places.{Places}

-- the block to which the newest link of a page leads
abbrev pub block_by : List Link → PageId → Option Pbn
block_by [] page = None
block_by (link ∷ older) page = if is_page page link.page then Some link.at else block_by older page

-- of each linked page that is no leaf one link
pub record AreInner (links inner : List Link) : Type 0 where
  pub each : (link : Link) → Contains inner link → (0 < link.page.level) × Contains links link
  pub every : (page : PageId) → 0 < page.level → IsSome (block_by links page) → (link : Link) × Contains inner link × (link.page ≡ page)
  pub once : AllPairs (λ (first second : Link). first.page ≡ second.page → ⊥) inner

-- the block of each linked page, and those pages that are no leaves
pub record ArePlaces (links : List Link) (places : Places) : Type 0 where
  pub blocks : (page : PageId) → get page_order places.blocks page ≡ block_by links page
  pub inner : AreInner links places.inner.items

-- what leads to a block, or to none
abbrev pub mapping_to : Option Pbn → Mapping
mapping_to None = Unmapped
mapping_to (Some at) = At at

-- a slot leads to the page below it, if that is linked (numbers of pages are below 2 ^ 32)
abbrev pub LeadsTo : List Link → PageId → ℕ → Mapping → Type 0
LeadsTo links page slot mapping = page.index * PAGE_SLOTS + slot < 2 ^ 32 → mapping ≡ mapping_to (block_by links (page_below page slot))

-- the first slots of a page do
pub record AreLeading (links : List Link) (page : PageId) (count : ℕ) (mappings : List Mapping) : Type 0 where
  pub size : length mappings ≡ PAGE_SLOTS
  pub each : (slot : ℕ) → slot < count → LeadsTo links page slot (slice_index_or mappings slot Unmapped)
