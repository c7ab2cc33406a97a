-- Which pages of the block map are there, by the image that was opened and the entries of the journal, and what a new page has.
use Rattle.std.specs.Prelude.{ℕ, ◌+◌, ◌≡◌, ◌⊎◌, ◌<◌, Option, None, Some, IsSome, List, [], ◌∷◌, nat_lt, replicate, slice_index_or, if◌then◌else◌}
use Rattle.blk_base.specs.declared.geometry.Geometry.{Geometry}
use Rattle.blk_base.specs.declared.opened.OpenedPage.{OpenedPage}
use Rattle.blk_base.specs.declared.place.Mapping.{Mapping}
use Rattle.blk_base.specs.declared.place.Mapping.TheVariants.{Unmapped, At}
use Rattle.blk_base.specs.declared.place.PageId.{PageId}
use Rattle.blk_base.specs.declared.place.Pbn.{Pbn}
use Rattle.blk_base.specs.declared.request.Request.TheVariants as request
use Rattle.blk_base.specs.declared.request.Request.{Request}
use Rattle.blk_base.specs.declared.sizes.TheConstants.{PAGE_SLOTS, TREES}
use Rattle.image_model.specs.Pages.{is_page}
use Rattle.page_codec.specs.PageBytes.{page_bytes}
use Rattle.page_codec.specs.declared.forms.PageHead.{PageHead}
use Rattle.blk_base.specs.Pages.{above, slot_of, leaf_of, page_above}
use Rattle.data_vio.specs.declared.logged.Logged.{Logged}
use Rattle.data_vio.specs.declared.logged.Logged.TheVariants.{Remaps, Makes}
use Rattle.data_vio.specs.declared.logged.NewPage.{NewPage}

-- the block of a mapping, where it has one
abbrev pub block_in : Mapping → Option Pbn
block_in (At x) = Some x
block_in other = None

-- the block to which the first of these pages leads that is the one above a page
abbrev pub led_by : List OpenedPage → PageId → Option Pbn
led_by [] page = None
led_by (opened ∷ others) page = if is_page opened.page (above page) then block_in (slice_index_or opened.mappings (slot_of page) Unmapped) else led_by others page

-- the block to which the pages of an image that are no leaves lead for a page of one of its trees
abbrev pub opened_page : List OpenedPage → PageId → Option Pbn
opened_page pages page = if nat_lt page.tree TREES then led_by pages page else None

-- where the newest of these entries puts a page, or else the image that was opened
abbrev pub page_in : (PageId → Option Pbn) → List Logged → PageId → Option Pbn
page_in links [] page = links page
page_in links (Remaps e ∷ older) page = page_in links older page
page_in links (Makes p ∷ older) page = if is_page p.page page then Some p.at else page_in links older page

-- a page is there: it is a root, or it is linked, by the image or by one of these entries
abbrev pub IsThere : ℕ → (PageId → Option Pbn) → List Logged → PageId → Type 0
IsThere height links es page = (page.level + 1 ≡ height) ⊎ IsSome (page_in links es page)

-- a page on the path of an address isn't there
abbrev pub Lacks : ℕ → (PageId → Option Pbn) → List Logged → ℕ → Type 0
Lacks height links es a = (level : ℕ) × (level + 1 < height) × (IsThere height links es (page_above level a) → ⊥)

-- a page that is no root is on the path of the address that a request writes
abbrev pub MayLack : ℕ → Request → PageId → Type 0
MayLack height (request.Write at bytes fua) page = (page ≡ page_above page.level at.0) × (page.level + 1 < height)
MayLack height other page = ⊥

-- the leaf of an address, at this block
abbrev pub leaf_head : Geometry → ℕ → Pbn → PageHead
leaf_head g a x = record { geometry = g; page = leaf_of a; at = x }

-- the bytes of a new page: it leads nowhere
unfoldable pub empty_page : Geometry → NewPage → List ℕ
empty_page g p = page_bytes (record { geometry = g; page = p.page; at = p.at }) (replicate PAGE_SLOTS Unmapped)
