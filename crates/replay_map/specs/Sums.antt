-- How often the pages of an image map to a block.
use Rattle.std.specs.Prelude.{ℕ, zero, suc, ◌+◌, ◌-◌, ◌==◌, if◌then◌else◌}
use Rattle.blk_base.specs.declared.place.PageId.{PageId}
use Rattle.blk_base.specs.declared.place.Pbn.{Pbn}
use Rattle.blk_base.specs.declared.sizes.TheConstants.{PAGE_SLOTS}
use Rattle.image_model.specs.Counts.{mapped_below}
use Rattle.image_model.specs.Maps.{Image, slot_in}
use Rattle.blk_base.specs.Pages.{page_below, root_page}

-- the sum of what stands at the first numbers
unfoldable pub sum_below : (ℕ → ℕ) → ℕ → ℕ
sum_below f zero = 0
sum_below f (suc n) = sum_below f n + f n

-- how many slots of the leaves so many levels below a page map to a block
abbrev pub maps_under : Image → Pbn → ℕ → PageId → ℕ
maps_under image block zero page = mapped_below (slot_in image page) block PAGE_SLOTS
maps_under image block (suc levels) page = sum_below (λ slot. maps_under image block levels (page_below page slot)) PAGE_SLOTS

-- of all leaves below a page, or of the page itself, if it is one
abbrev pub maps_below : Image → PageId → Pbn → ℕ
maps_below image page block = maps_under image block page.level page

-- how many slots of a page map to a block; those of a page that is no leaf don't
abbrev pub maps_in : Image → PageId → Pbn → ℕ
maps_in image page block = if page.level == 0 then maps_under image block 0 page else 0

-- of a page, and of all leaves below its first slots
abbrev pub maps_up_to : Image → PageId → ℕ → Pbn → ℕ
maps_up_to image page slots block = maps_in image page block + sum_below (λ slot. maps_under image block (page.level - 1) (page_below page slot)) slots

-- of the leaves of the first trees
abbrev pub maps_in_trees : Image → ℕ → Pbn → ℕ
maps_in_trees image trees block = sum_below (λ tree. maps_under image block (image.geometry.height - 1) (root_page image.geometry tree)) trees
