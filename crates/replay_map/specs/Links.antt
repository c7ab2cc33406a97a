-- The pages to which a page leads.
use Rattle.std.specs.Prelude.{ℕ, ◌≡◌, ◌+◌, ◌*◌, ◌<◌, ◌≤◌, ◌↔◌, List, [], ◌∷◌, Some, Contains, slice_index_or}
use Rattle.blk_base.specs.Pages.{above, page_below, root_page}
use Rattle.blk_base.specs.Regions.{Root, block_of}
use Rattle.blk_base.specs.declared.geometry.Geometry.{Geometry}
use Rattle.blk_base.specs.declared.place.Mapping.{Mapping}
use Rattle.blk_base.specs.declared.place.Mapping.TheVariants.{Unmapped, Zero, At}
use Rattle.blk_base.specs.declared.place.PageId.{PageId}
use Rattle.blk_base.specs.declared.place.Pbn.{Pbn}
use Rattle.image_model.specs.Maps.{Image, page_at}
use Rattle.replay_map.specs.declared.links.Link.{Link}

-- the linked pages of an image that are just below this one, each with its block
abbrev pub AreLinks : Image → PageId → List Link → Type 0
AreLinks image page links = (below : PageId) (at : Pbn)
    → Contains links (record { page = below; at = at }) ↔ ((above below ≡ page) × (page_at image below ≡ Some at))

-- By the page's mappings.

-- the root of a tree, at its block
abbrev pub root_link : Geometry → ℕ → Link
root_link g tree = record { page = root_page g tree; at = record { 0 = block_of g (Root tree) } }

-- the link of a slot, if it has one
abbrev pub link_of : PageId → ℕ → Mapping → List Link
link_of page slot Unmapped = []
link_of page slot Zero = []
link_of page slot (At block) = record { page = page_below page slot; at = block } ∷ []

-- the 116 slots of a run are unmapped
abbrev pub IsUnmappedRun : List Mapping → ℕ → Type 0
IsUnmappedRun mappings run = (slot : ℕ) → 116 * run ≤ slot → slot < 116 * (run + 1) → slice_index_or mappings slot Unmapped ≡ Unmapped

-- these are the links of the first slots
abbrev pub AreOfSlots : PageId → List Mapping → ℕ → List Link → Type 0
AreOfSlots page mappings count links = (below : PageId) (at : Pbn)
    → Contains links (record { page = below; at = at })
    ↔ ((slot : ℕ) × (slot < count) × (below ≡ page_below page slot) × (slice_index_or mappings slot Unmapped ≡ At at))
