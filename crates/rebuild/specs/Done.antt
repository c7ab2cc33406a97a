-- What the parts of recovery need of an image, and what they have done.
use Rattle.std.specs.Prelude.{ℕ, ◌≡◌, ◌/◌, ◌<◌, List, Contains, Some}
use Rattle.blk_base.specs.Counters.{sectors_per_slab}
use Rattle.blk_base.specs.Regions.{ReferenceBlock, Root, block_of, references_of}
use Rattle.blk_base.specs.declared.geometry.Geometry.{Geometry}
use Rattle.blk_base.specs.declared.place.Mapping.{Mapping}
use Rattle.blk_base.specs.declared.place.PageId.{PageId}
use Rattle.blk_base.specs.declared.place.Pbn.{Pbn}
use Rattle.blk_base.specs.declared.sizes.TheConstants.{PAGE_SLOTS, TREES}
use Rattle.disk_model.specs.declared.call.Call.{Call}
use Rattle.image_model.specs.Counts.{commit_at}
use Rattle.image_model.specs.Maps.{Image, page_at, put_last}
use Rattle.recovery_blocks.specs.Counters.{HasUpdate}
use Rattle.recovery_blocks.specs.Patches.{HasChange}
use Rattle.disk_model.specs.Log.{IsWritten}
use Rattle.replay_counts.specs.Recovered.{HasCounts, IsInSector}
use Rattle.replay_counts.specs.declared.forms.SectorPoints.{SectorPoints}
use Rattle.replay_map.specs.Changes.{AreNewest}
use Rattle.replay_map.specs.Replayed.{AreAllLinks}
use Rattle.blk_base.specs.Pages.{root_page}
use Rattle.replay_map.specs.declared.changes.SlotId.{SlotId}
use Rattle.replay_map.specs.declared.links.Link.{Link}

-- Pages.

-- the page stands there, and these are the changes of the window
abbrev pub HasPage : List (SlotId × Mapping) → Link → Image → Type 0
HasPage changes link image = AreNewest image.window changes × (page_at image link.page ≡ Some link.at)

-- it was written, if the window changes it
abbrev pub IsPageDone : List (SlotId × Mapping) → Link → Image → List Call → Type 0
IsPageDone changes link image calls = HasChange changes link.page → IsWritten calls link.at.0

-- the image has these sizes, and these are the changes of its window
abbrev pub HasRoots : Geometry → List (SlotId × Mapping) → Image → Type 0
HasRoots g changes image = AreNewest image.window changes × (image.geometry ≡ g)

-- the first roots were
abbrev pub AreRootsDone : Geometry → List (SlotId × Mapping) → ℕ → Image → List Call → Type 0
AreRootsDone g changes trees image calls = (tree : ℕ) → tree < trees → tree < TREES → HasChange changes (root_page g tree) → IsWritten calls (block_of g (Root tree))

-- these pages stand there
abbrev pub HasLinks : List (SlotId × Mapping) → List Link → Image → Type 0
HasLinks changes links image = AreNewest image.window changes × ((link : Link) → Contains links link → page_at image link.page ≡ Some link.at)

-- they were written, those that the window changes
abbrev pub AreLinksDone : List (SlotId × Mapping) → List Link → Image → List Call → Type 0
AreLinksDone changes links image calls = (link : Link) → Contains links link → HasChange changes link.page → IsWritten calls link.at.0

-- these are all its pages but the roots
abbrev pub HasPages : Geometry → List (SlotId × Mapping) → List Link → Image → Type 0
HasPages g changes links image = AreNewest image.window changes × (image.geometry ≡ g) × AreAllLinks image links

-- each page that the window changes was written
abbrev pub ArePagesDone : Image → List Call → Type 0
ArePagesDone image calls = (page : PageId) (at : Pbn) (slot : ℕ) (mapping : Mapping) → page_at image page ≡ Some at → slot < PAGE_SLOTS
    → put_last image.window page slot ≡ Some mapping → IsWritten calls at.0

-- Counters.

-- the image has these sizes and these counts
abbrev pub HasTheseCounts : Geometry → List ℕ → List SectorPoints → Image → Type 0
HasTheseCounts g counts sectors image = HasCounts image counts sectors × (image.geometry ≡ g)

-- a block of a slab's counters was written, if it has an update
abbrev pub IsBlockDone : Geometry → List SectorPoints → ℕ → ℕ → Image → List Call → Type 0
IsBlockDone g sectors slab i image calls = HasUpdate g slab i sectors → IsWritten calls (block_of g (ReferenceBlock slab i))

-- the first blocks of a slab's counters were
abbrev pub IsSlabDone : Geometry → List SectorPoints → ℕ → ℕ → Image → List Call → Type 0
IsSlabDone g sectors slab blocks image calls = (i : ℕ) → i < blocks → IsBlockDone g sectors slab i image calls

-- those of the first slabs
abbrev pub AreSlabsDone : Geometry → List SectorPoints → ℕ → Image → List Call → Type 0
AreSlabsDone g sectors slabs image calls = (slab : ℕ) → slab < slabs → IsSlabDone g sectors slab (references_of g) image calls

-- each block of counters with an update above a commit point was
abbrev pub AreCountersDone : Image → List Call → Type 0
AreCountersDone image calls = (slab n point : ℕ) → slab < image.geometry.slabs → n < sectors_per_slab image.geometry
    → commit_at image.geometry image.blocks slab n < point → IsInSector image slab n point
    → IsWritten calls (block_of image.geometry (ReferenceBlock slab (n / 8)))

-- Both.

-- the image has these sizes, changes, links and counts
pub record HasContents (g : Geometry) (changes : List (SlotId × Mapping)) (pages : List Link) (stored : List ℕ) (sectors : List SectorPoints) (image : Image) : Type 0 where
  pub sizes : image.geometry ≡ g
  pub newest : AreNewest image.window changes
  pub links : AreAllLinks image pages
  pub counts : HasCounts image stored sectors

-- each page and each block of counters that was to be written was
abbrev pub AreBothDone : Image → List Call → Type 0
AreBothDone image calls = ArePagesDone image calls × AreCountersDone image calls
