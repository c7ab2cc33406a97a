-- The calls that recover an image, the newest first.
use Rattle.std.specs.Prelude.{ℕ, ◌≡◌, ◌⊎◌, ◌/◌, ◌%◌, ◌<◌, ◌≤◌, true, false, List, ◌∷◌, ◌++◌, length, Some}
use Rattle.std.specs.List.{AllByRecursion}
use Rattle.blk_base.specs.Counters.{sectors_per_slab}
use Rattle.blk_base.specs.Regions.{ReferenceBlock, IsPlace, block_of}
use Rattle.blk_base.specs.Sectors.{sector}
use Rattle.blk_base.specs.declared.place.Mapping.{Mapping}
use Rattle.blk_base.specs.declared.place.PageId.{PageId}
use Rattle.blk_base.specs.declared.place.Pbn.{Pbn}
use Rattle.blk_base.specs.declared.sizes.TheConstants.{PAGE_SLOTS}
use Rattle.disk_model.specs.declared.call.Call.{Call}
use Rattle.disk_model.specs.declared.call.Call.TheVariants.{Read, Write, Flush}
use Rattle.disk_model.specs.Log.{IsWritten}
use Rattle.image_format.specs.Calls.{put}
use Rattle.image_format.specs.Runs.{as_failed}
use Rattle.image_layout.specs.Superblock.{super_block}
use Rattle.image_model.specs.Counts.{commit_at}
use Rattle.image_model.specs.Maps.{Image, page_at, put_last}
use Rattle.replay_counts.specs.Recovered.{IsInSector}
use Rattle.recovery_laws.specs.Kept.{recovered_super}
use Rattle.recovery_laws.specs.Written.{IsFullPage, IsFullSector, IsOldSector}

-- What is written.

-- a page that says by itself what it says with the window
abbrev pub IsPagePut : Image → Pbn → List ℕ → Type 0
IsPagePut image at bytes = (page : PageId) × (page_at image page ≡ Some at) × IsFullPage image page at bytes

-- a block of counters: each of its sectors has all updates, and those past the slab's end are as they were
pub record IsCountersPut (image : Image) (at : Pbn) (bytes : List ℕ) : Type 0 where
  pub slab : ℕ
  pub i : ℕ
  pub inside : IsPlace image.geometry (ReferenceBlock slab i)
  pub stands : block_of image.geometry (ReferenceBlock slab i) ≡ at.0
  pub full : (n : ℕ) → n / 8 ≡ i → n < sectors_per_slab image.geometry → IsFullSector image slab n (sector (n % 8) bytes)
  pub past : (n : ℕ) → n / 8 ≡ i → sectors_per_slab image.geometry ≤ n → IsOldSector image slab n (sector (n % 8) bytes)

-- a write of a whole block of one of both kinds, or a read
abbrev pub IsPut : Image → Call → Type 0
IsPut image (Write at bytes true) = (length bytes ≡ 4096) × (IsPagePut image at bytes ⊎ IsCountersPut image at bytes)
IsPut image (Write at bytes false) = ⊥
IsPut image (Read _ _ _) = Unit {0}
IsPut image (Flush _) = ⊥

-- The writes of recovery, in any order, with reads among them: each page with a slot into which the window puts something, each block of
-- counters with a sector that has an update above its commit point; and no other block.
pub record ArePuts (image : Image) (calls : List Call) : Type 0 where
  pub each : AllByRecursion (IsPut image) calls
  pub pages : (page : PageId) (at : Pbn) (slot : ℕ) (mapping : Mapping) → page_at image page ≡ Some at → slot < PAGE_SLOTS
      → put_last image.window page slot ≡ Some mapping → IsWritten calls at.0
  pub counters : (slab n point : ℕ) → slab < image.geometry.slabs → n < sectors_per_slab image.geometry
      → commit_at image.geometry image.blocks slab n < point → IsInSector image slab n point
      → IsWritten calls (block_of image.geometry (ReferenceBlock slab (n / 8)))

-- All calls: those writes, and a flush, so that all of them are on the device; then the superblock, and a flush.
abbrev pub recovery_calls : Image → ℕ → List Call → List Call
recovery_calls image last puts =
    Flush true ∷ put 0 (super_block (recovered_super image.geometry last)) ∷ Flush true ∷ puts

-- The calls of a recovery so far, wherever it ended: reads and writes; and one more of them, or a flush, that failed; or all of
-- them, and some of those behind; and one more of these that failed.
pub data IsBegun (image : Image) (last : ℕ) (calls : List Call) : Type 0 where
  some_puts : AllByRecursion (IsPut image) calls → IsBegun image last calls
  put_failed : (done : List Call) (call : Call) → calls ≡ as_failed call ∷ done → AllByRecursion (IsPut image) done → IsPut image call ⊎ (call ≡ Flush true) → IsBegun image last calls
  first_calls : (puts newer : List Call) → ArePuts image puts → recovery_calls image last puts ≡ newer ++ calls → IsBegun image last calls
  call_failed : (puts newer done : List Call) (call : Call) → calls ≡ as_failed call ∷ done → ArePuts image puts → recovery_calls image last puts ≡ newer ++ (call ∷ done)
      → IsBegun image last calls
