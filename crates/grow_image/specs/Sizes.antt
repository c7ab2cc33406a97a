-- The sizes of an image with more addresses and more slabs.
use Rattle.std.specs.Prelude.{ℕ, ◌≡◌, ◌≤◌, ◌<◌, true, Ok, Err}
use Rattle.blk_base.specs.Limits.{IsGeometry}
use Rattle.blk_base.specs.Regions.{Place, Superblock, JournalSlot, Root, IndexBlock, DataBlock, ReferenceBlock, SlabJournalSlot, needed_blocks}
use Rattle.blk_base.specs.declared.geometry.Geometry.{Geometry}
use Rattle.blk_base.specs.declared.geometry.Super.{Super as Superhead}
use Rattle.image_layout.specs.PossibleSizes.{plan_of}
use Rattle.image_layout.specs.declared.fault.Field.{Field}
use Rattle.image_layout.specs.declared.fault.Field.TheVariants.{Height, Nonce, Logical, Slabs, SlabBlocks, Journal, Index, SlabJournal, Clean, Reserved, Start, Blocks}
use Rattle.grow_image.specs.declared.fault.GrowFault.{GrowFault}
use Rattle.grow_image.specs.declared.fault.GrowFault.TheVariants.{Image, Smaller, Layout, Mapped}
use Rattle.grow_image.specs.declared.forms.Grown.{Grown}

-- so many addresses and slabs, and the other sizes as they were
abbrev pub grown_sizes : Geometry → ℕ → ℕ → Geometry
grown_sizes g logical slabs = record {
  logical = logical;
  slabs = slabs;
  slab_blocks = g.slab_blocks;
  journal = g.journal;
  index = g.index;
  slab_journal = g.slab_journal;
  height = g.height;
  nonce = g.nonce;
}

-- the superblock of a closed image with these sizes; the next session begins where it would have
abbrev pub grown_super : Superhead → ℕ → ℕ → Superhead
grown_super head logical slabs = record { geometry = grown_sizes head.geometry logical slabs; clean = true; start = head.start }

-- what is told of them
abbrev pub grown_of : Geometry → ℕ → ℕ → Grown
grown_of g logical slabs = record { blocks = needed_blocks (grown_sizes g logical slabs); slabs = slabs; slab_blocks = g.slab_blocks; logical = logical }

-- neither fewer addresses nor fewer slabs
pub record IsMore (g : Geometry) (logical slabs : ℕ) : Type 0 where
  pub logical_more : g.logical ≤ logical
  pub slabs_more : g.slabs ≤ slabs

-- the first of the two of which there would be fewer
abbrev pub IsSmaller : Geometry → ℕ → ℕ → Field → Type 0
IsSmaller g logical slabs Logical = logical < g.logical
IsSmaller g logical slabs Slabs = (g.logical ≤ logical) × (slabs < g.slabs)
IsSmaller g logical slabs Height = ⊥
IsSmaller g logical slabs Nonce = ⊥
IsSmaller g logical slabs SlabBlocks = ⊥
IsSmaller g logical slabs Journal = ⊥
IsSmaller g logical slabs Index = ⊥
IsSmaller g logical slabs SlabJournal = ⊥
IsSmaller g logical slabs Clean = ⊥
IsSmaller g logical slabs Reserved = ⊥
IsSmaller g logical slabs Start = ⊥
IsSmaller g logical slabs Blocks = ⊥

-- an image of so many addresses and slabs can be had, and has no fewer of them; the device has so many blocks
pub record CanGrow (g : Geometry) (logical slabs blocks : ℕ) : Type 0 where
  pub more : IsMore g logical slabs
  pub planned : plan_of (grown_sizes g logical slabs) blocks ≡ Ok tt
  pub sizes : IsGeometry (grown_sizes g logical slabs)
  pub fits : needed_blocks (grown_sizes g logical slabs) ≤ blocks

-- why it can't
abbrev pub PlanFails : Geometry → ℕ → ℕ → ℕ → GrowFault → Type 0
PlanFails g logical slabs blocks (Smaller field) = IsSmaller g logical slabs field
PlanFails g logical slabs blocks (Layout fault) = IsMore g logical slabs × (plan_of (grown_sizes g logical slabs) blocks ≡ Err fault)
PlanFails g logical slabs blocks (Image why) = ⊥
PlanFails g logical slabs blocks (Mapped at) = ⊥

-- a place of a new slab's counters or of its journal
abbrev pub IsNewPlace : Geometry → Place → Type 0
IsNewPlace g Superblock = ⊥
IsNewPlace g (JournalSlot _) = ⊥
IsNewPlace g (Root _) = ⊥
IsNewPlace g (IndexBlock _) = ⊥
IsNewPlace g (DataBlock _ _) = ⊥
IsNewPlace g (ReferenceBlock slab _) = g.slabs ≤ slab
IsNewPlace g (SlabJournalSlot slab _) = g.slabs ≤ slab
