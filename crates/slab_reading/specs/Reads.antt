-- The blocks of slabs that were read from a device.
use Rattle.std.specs.Prelude.{ℕ, ◌≡◌, ◌<◌, ◌==◌, if◌then◌else◌, List, [], ◌∷◌, length, reverse}
use Rattle.blk_base.specs.declared.geometry.Geometry.{Geometry}
use Rattle.disk_model.specs.Log.{Blocks}
use Rattle.disk_model.specs.Seen.{Seen}
use Rattle.disk_model.specs.Trust.{Trust}
use Rattle.disk_model.specs.Since.{WereRead, StopsBefore}
use Rattle.image_model.specs.declared.fault.ImageFault.{ImageFault}
use Rattle.image_model.specs.declared.fault.ImageFault.TheVariants.{Super, Window, Page, Counter, SharedPage, Counts, Device, Unclean, Memory}
use Rattle.slab_reading.specs.Slabs.{first_of_slab, blocks_per_slab}

-- the reference blocks of a slab and those of its journal were read once, in their order, and nothing else was done
pub record IsSlabRead (trust : Trust) (g : Geometry) (slab : ℕ) (before now : Seen) (read : Blocks) : Type 0 where
  pub count : length read ≡ blocks_per_slab g
  pub reads : WereRead trust (first_of_slab g slab) before now (reverse read)

-- some of them were read, and the read of the next one failed
abbrev pub SlabFailed : Trust → Geometry → ℕ → Seen → Seen → Type 0
SlabFailed trust g slab before now =
    StopsBefore trust (first_of_slab g slab) (blocks_per_slab g) before now

-- why a slab isn't read: that, or want of memory
abbrev pub SlabFails : Trust → Geometry → ℕ → Seen → Seen → ImageFault → Type 0
SlabFails trust g slab before now Device = SlabFailed trust g slab before now
SlabFails trust g slab before now Memory = Unit {0}
SlabFails trust g slab before now (Super fault) = ⊥
SlabFails trust g slab before now (Window sequence) = ⊥
SlabFails trust g slab before now (Page at fault) = ⊥
SlabFails trust g slab before now (Counter at point) = ⊥
SlabFails trust g slab before now (SharedPage at) = ⊥
SlabFails trust g slab before now (Counts at stored mapped) = ⊥
SlabFails trust g slab before now Unclean = ⊥

-- Slabs were read one after the other, from slab 0 on, and nothing else was done. The last one stands first.
abbrev pub SlabsRead : Trust → Geometry → Seen → Seen → List Blocks → Type 0
SlabsRead trust g before now [] = now ≡ before
SlabsRead trust g before now (read ∷ older) =
    (middle : Seen) × SlabsRead trust g before middle older × IsSlabRead trust g (length older) middle now read

-- what was read of a slab
abbrev pub read_of : List Blocks → ℕ → Blocks
read_of [] slab = []
read_of (read ∷ older) slab = if slab == length older then read else read_of older slab

-- so many of the slabs were read, and then a read of the next one failed
abbrev pub ReadFailed : Trust → Geometry → Seen → Seen → Type 0
ReadFailed trust g before now =
    (reads : List Blocks) × (length reads < g.slabs) × (middle : Seen) × SlabsRead trust g before middle reads × SlabFailed trust g (length reads) middle now

-- why the slabs aren't read
abbrev pub SlabsFail : Trust → Geometry → Seen → Seen → ImageFault → Type 0
SlabsFail trust g before now Device = ReadFailed trust g before now
SlabsFail trust g before now Memory = Unit {0}
SlabsFail trust g before now (Super fault) = ⊥
SlabsFail trust g before now (Window sequence) = ⊥
SlabsFail trust g before now (Page at fault) = ⊥
SlabsFail trust g before now (Counter at point) = ⊥
SlabsFail trust g before now (SharedPage at) = ⊥
SlabsFail trust g before now (Counts at stored mapped) = ⊥
SlabsFail trust g before now Unclean = ⊥
