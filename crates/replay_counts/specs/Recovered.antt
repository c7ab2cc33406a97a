-- What the counts of an image are.
use Rattle.std.specs.Prelude.{ℕ, ◌≡◌, ◌⊎◌, ◌+◌, ◌*◌, ◌<◌, List, length, get_or, slice_index, Ok}
use Rattle.blk_base.specs.Counters.{sectors_per_slab, sector_of_offset}
use Rattle.blk_base.specs.declared.geometry.Geometry.{Geometry}
use Rattle.blk_base.specs.declared.geometry.Super.{Super as Superblock}
use Rattle.blk_base.specs.declared.journal_entry.CommittedEntry.{CommittedEntry}
use Rattle.blk_base.specs.declared.layout.DataPlace.{DataPlace}
use Rattle.blk_base.specs.declared.point.Point.{Point}
use Rattle.blk_base.specs.Regions.{data_blocks}
use Rattle.count_updates.specs.Applied.{IsGreatest, AreApplied}
use Rattle.count_updates.specs.Counted.{AreCounted, commit_in}
use Rattle.count_updates.specs.Numbers.{all_sectors, block_number}
use Rattle.count_updates.specs.FoundLists.{FoundLists}
use Rattle.disk_model.specs.Log.{Blocks, block_at}
use Rattle.disk_model.specs.Seen.{Seen}
use Rattle.disk_model.specs.Trust.{Trust}
use Rattle.image_model.specs.Counts.{IsUpdate, Stores, commit_at}
use Rattle.image_model.specs.Faults.{IsCountFault}
use Rattle.image_model.specs.Maps.{Image, image_with}
use Rattle.image_model.specs.Sound.{IsDataPlace}
use Rattle.image_model.specs.declared.fault.ImageFault.{ImageFault}
use Rattle.image_model.specs.declared.fault.ImageFault.TheVariants.{Super, Window, Page, Counter, SharedPage, Counts, Device, Unclean, Memory}
use Rattle.journal_window.specs.Reads.{IsWindowRead, Fails}
use Rattle.journal_window.specs.States.{WindowState}
use Rattle.replay_counts.specs.declared.forms.SectorPoints.{SectorPoints}
use Rattle.slab_reading.specs.Reads.{SlabsRead, ReadFailed, read_of}
use Rattle.slab_reading.specs.Slabs.{first_of_slab, blocks_per_slab}

-- a block of the n-th sector of a slab has an update at this point
abbrev pub IsInSector : Image → ℕ → ℕ → ℕ → Type 0
IsInSector image slab n point =
    (offset : ℕ) × (offset < image.geometry.slab_blocks) × (sector_of_offset image.geometry offset ≡ n) × IsUpdate image (record { slab = slab; offset = offset }) point

-- the commit point of the n-th sector of a slab, and the greatest point above it that was applied there, or that one again
pub record ArePointsOf (image : Image) (slab n : ℕ) (points : SectorPoints) : Type 0 where
  pub commit : points.commit.0 ≡ commit_at image.geometry image.blocks slab n
  pub applied : IsGreatest (commit_at image.geometry image.blocks slab n) (IsInSector image slab n) points.applied.0

-- the points of no sector
abbrev pub no_points : SectorPoints
no_points = record { commit = record { 0 = 0 }; applied = record { 0 = 0 } }

-- the stored count of each data block, and the points of each sector
pub record HasCounts (image : Image) (counts : List ℕ) (sectors : List SectorPoints) : Type 0 where
  pub blocks : length counts ≡ data_blocks image.geometry
  pub stored : (place : DataPlace) → IsDataPlace image.geometry place → Stores image place (Ok (slice_index counts (block_number image.geometry place)))
  pub sizes : length sectors ≡ all_sectors image.geometry
  pub points : (slab n : ℕ) → slab < image.geometry.slabs → n < sectors_per_slab image.geometry
      → ArePointsOf image slab n (get_or sectors (slab * sectors_per_slab image.geometry + n) no_points)

-- an image has these blocks where the slabs were read
abbrev pub Holds : Geometry → Blocks → List Blocks → Type 0
Holds g blocks reads =
    (slab i : ℕ) → slab < g.slabs → i < blocks_per_slab g → block_at blocks (first_of_slab g slab + i) ≡ block_at (read_of reads slab) i

-- all slabs were read, and nothing else was done
pub record AreSlabsRead (trust : Trust) (g : Geometry) (before now : Seen) (reads : List Blocks) : Type 0 where
  pub count : length reads ≡ g.slabs
  pub read : SlabsRead trust g before now reads

-- All slabs were read, and each image that has what was read has these counts.
abbrev pub AreCountsRead : Trust → Geometry → List CommittedEntry → Seen → Seen → List ℕ → List SectorPoints → Type 0
AreCountsRead trust g window before now counts sectors =
    (reads : List Blocks) × AreSlabsRead trust g before now reads
    × ((blocks : Blocks) → Holds g blocks reads → HasCounts (image_with g blocks window) counts sectors)

-- Why there are none: a count of each such image leaves its range, a read failed, or want of memory.
abbrev pub CountsFail : Trust → Geometry → List CommittedEntry → Seen → Seen → ImageFault → Type 0
CountsFail trust g window before now (Counter at point) =
    (reads : List Blocks) × AreSlabsRead trust g before now reads
    × ((blocks : Blocks) → Holds g blocks reads → IsCountFault (image_with g blocks window) at point.0)
CountsFail trust g window before now Device = ReadFailed trust g before now
CountsFail trust g window before now Memory = Unit {0}
CountsFail trust g window before now (Super fault) = ⊥
CountsFail trust g window before now (Window sequence) = ⊥
CountsFail trust g window before now (Page at fault) = ⊥
CountsFail trust g window before now (SharedPage at) = ⊥
CountsFail trust g window before now (Counts at stored mapped) = ⊥
CountsFail trust g window before now Unclean = ⊥

-- each sector's two points
pub record ArePaired (commits applied : List Point) (sectors : List SectorPoints) : Type 0 where
  pub size : length sectors ≡ length commits
  pub each : (n : ℕ) → n < length commits → ((get_or sectors n no_points).commit.0 ≡ commit_in commits n) × ((get_or sectors n no_points).applied.0 ≡ commit_in applied n)

-- what was counted from these lists
pub record IsCountedFrom (g : Geometry) (found : FoundLists) (counts : List ℕ) (sectors : List SectorPoints) : Type 0 where
  pub counted : AreCounted g found counts
  pub applied : List Point
  pub are_applied : AreApplied g found.updates found.commits applied
  pub paired : ArePaired found.commits applied sectors

-- The window was read, and then the slabs, and each image that has what was read has these counts.
abbrev pub AreCountsOf : Trust → Superblock → Seen → Seen → List ℕ → List SectorPoints → Type 0
AreCountsOf trust head before now counts sectors =
    (middle : Seen) × (window : WindowState) × IsWindowRead trust before middle head window
    × AreCountsRead trust head.geometry window.entries middle now counts sectors

-- why there are none: there is no window, or it was read and then there are no counts
abbrev pub CountingFails : Trust → Superblock → Seen → Seen → ImageFault → Type 0
CountingFails trust head before now why =
    Fails trust before now head why
    ⊎ ((middle : Seen) × (window : WindowState) × IsWindowRead trust before middle head window × CountsFail trust head.geometry window.entries middle now why)
