-- The map of an image doesn't depend on how many addresses and slabs it has.
use Rattle.std.proofs.Common.{ℕ, zero, suc, ◌≡◌, ◌-◌, ◌&&◌, nat_lt, if◌then◌else◌, List, Option, Some, None, refl, ap}
use Rattle.blk_base.specs.declared.geometry.Geometry.{Geometry}
use Rattle.blk_base.specs.declared.journal_entry.CommittedEntry.{CommittedEntry}
use Rattle.blk_base.specs.declared.place.Mapping.TheVariants.{Unmapped}
use Rattle.blk_base.specs.declared.place.PageId.{PageId}
use Rattle.blk_base.specs.declared.place.Pbn.{Pbn}
use Rattle.blk_base.specs.declared.sizes.TheConstants.{TREES}
use Rattle.blk_base.specs.Pages.{above, slot_of, leaf_of, slot_of_address}
use Rattle.disk_model.specs.Log.{Blocks}
use Rattle.image_model.specs.Maps.{Image, linked_at, mapping_of, page_at, says, target_of}
use Rattle.image_model.specs.Pages.{address_count}
use Rattle.grow_image.specs.Sizes.{grown_sizes}

module _ (g : Geometry) (logical slabs : ℕ) (blocks : Blocks) (window : List CommittedEntry) where
  abbrev pub small : Image
  small = record { geometry = g; blocks = blocks; window = window }

  abbrev pub large : Image
  large = record { geometry = grown_sizes g logical slabs; blocks = blocks; window = window }

  links_as : (links : ℕ) (page : PageId) → linked_at large links page ≡ linked_at small links page
  links_as zero page = refl
  links_as (suc links) page =
      ap (λ (o : Option Pbn). elim o [ Some at ↦ target_of (says small (above page) at (slot_of page)) | None ↦ None ]) (links_as links (above page))

  pub page_as : (page : PageId) → page_at large page ≡ page_at small page
  page_as page =
      ap (λ (o : Option Pbn). if nat_lt page.tree TREES && nat_lt page.level g.height then o else None) (links_as (g.height - 1 - page.level) page)

  pub mapping_as : (address : ℕ) → mapping_of large address ≡ mapping_of small address
  mapping_as address =
      ap (λ (o : Option Pbn). elim o [ Some at ↦ says small (leaf_of address) at (slot_of_address address) | None ↦ Unmapped ]) (page_as (leaf_of address))

pub count_as : (g : Geometry) (logical slabs : ℕ) → address_count (grown_sizes g logical slabs) ≡ address_count g
unfolding address_count
count_as g logical slabs = refl
