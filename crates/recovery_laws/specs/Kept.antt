-- What recovery keeps of an image.
use Rattle.std.specs.Prelude.{ℕ, ◌≡◌, ◌⊎◌, ◌+◌, ◌^◌, ◌<◌, ◌↔◌, ◌++◌, true, false, List, length, Ok}
use Rattle.std.specs.List.{AllByRecursion}
use Rattle.blk_base.specs.Regions.{IndexBlock, block_of, needed_blocks}
use Rattle.blk_base.specs.declared.geometry.Geometry.{Geometry}
use Rattle.blk_base.specs.declared.geometry.Super.{Super}
use Rattle.blk_base.specs.declared.layout.DataPlace.{DataPlace}
use Rattle.disk_model.specs.declared.call.Call.{Call}
use Rattle.disk_model.specs.declared.call.Call.TheVariants.{Read, Write, Flush}
use Rattle.disk_model.specs.Images.{IsImage}
use Rattle.disk_model.specs.Log.{Blocks, Misses}
use Rattle.image_layout.specs.Superblock.{super_of}
use Rattle.image_model.specs.Counts.{Stores}
use Rattle.image_model.specs.Looked.{HasOneImageButIndex}
use Rattle.image_model.specs.Maps.{Image, HaveSameMap, value_of}
use Rattle.image_model.specs.Sound.{IsDataPlace, IsSound, image_of}
use Rattle.recovery_laws.specs.Written.{AreOthersKept, AreRestKept}

-- two images say the same: of the same sizes, each address has the same mapping and value, and each data block the same stored count
pub record SayTheSame (old new : Image) : Type 0 where
  pub geometry : new.geometry ≡ old.geometry
  pub map : HaveSameMap old new
  pub values : (address : ℕ) → value_of new address ≡ value_of old address
  pub counts : (place : DataPlace) (count : ℕ) → IsDataPlace old.geometry place → Stores new place (Ok count) ↔ Stores old place (Ok count)

-- These blocks are a sound image that says the same; and each block but the superblock's, the pages', the counters' and the
-- index's has the bytes that it had: those of both journals, all data blocks that are no page, and all behind the image. The
-- counters behind the slabs' ends are 0, or what they were.
pub record AreKept (old : Image) (blocks : Blocks) : Type 0 where
  pub sound : IsSound blocks
  pub same : SayTheSame old (image_of sound.head blocks sound.window)
  pub others : AreOthersKept old blocks
  pub rest : AreRestKept old blocks

-- a sound image, as it is opened
abbrev pub image_in : (blocks : Blocks) → IsSound blocks → Image
image_in blocks sound = image_of sound.head blocks sound.window

-- these calls write no block of the index: it has what it had, and what was pending there is
abbrev pub AreIndexMissed : Geometry → List Call → Type 0
AreIndexMissed g calls = (i : ℕ) → i < g.index → AllByRecursion (λ call. Misses call (block_of g (IndexBlock i))) calls

-- this call, whether it fails or not, writes no block from this one on
abbrev pub WritesBelow : ℕ → Call → Type 0
WritesBelow end (Read _ _ _) = Unit {0}
WritesBelow end (Write at _ _) = at.0 < end
WritesBelow end (Flush _) = Unit {0}

-- these calls write no block behind an image of these sizes
abbrev pub AreInside : Geometry → List Call → Type 0
AreInside g calls = AllByRecursion (WritesBelow (needed_blocks g)) calls

-- The superblock that recovery writes: closed, and the next session begins two behind the last sequence, so that a block
-- of the next one that was torn stays below every later session.
abbrev pub recovered_super : Geometry → ℕ → Super
recovered_super g last = record { geometry = g; clean = true; start = last + 2 }

-- what this call writes to this block, if it does, has this property
abbrev pub PutsOnly : ℕ → (List ℕ → Type 0) → Call → Type 0
PutsOnly b P (Read _ _ _) = Unit {0}
PutsOnly b P (Write at bytes _) = at.0 ≡ b → P bytes
PutsOnly b P (Flush _) = Unit {0}

-- bytes of the superblock of an image that is recovered: the old one, or the one that recovery writes where the last session
-- wasn't closed
abbrev pub IsHeadKept : (blocks : Blocks) → IsSound blocks → List ℕ → Type 0
IsHeadKept blocks sound content =
    (super_of content (length blocks) ≡ Ok sound.head)
    ⊎ ((sound.head.clean ≡ false) × (super_of content (length blocks) ≡ Ok (recovered_super sound.head.geometry sound.last)))

-- Whatever a stop leaves at each moment since the log was the first one, once all these calls were made and before: the
-- same image. Of block 0 no other superblock is written, of the index nothing, and nothing behind the image.
pub record AreStopsKept (blocks : Blocks) (sound : IsSound blocks) (opening : Blocks) (first calls : List Call) : Type 0 where
  pub kept : (newer older : List Call) (now : Blocks) → calls ≡ newer ++ older → IsImage opening (older ++ first) now → AreKept (image_in blocks sound) now
  pub heads : AllByRecursion (PutsOnly 0 (IsHeadKept blocks sound)) calls
  pub index : AreIndexMissed sound.head.geometry calls
  pub inside : AreInside sound.head.geometry calls

-- the image was recovered: it says the same, its other blocks are what they were, it is closed, and the next session begins there
pub record IsRecovered (old : Image) (last : ℕ) (blocks : Blocks) : Type 0 where
  pub kept : AreKept old blocks
  pub closed : kept.sound.head ≡ recovered_super old.geometry last

-- An image to recover: nothing is pending on its device but in the index, it is sound, and its last session wasn't closed.
pub record IsToRecover (opening : Blocks) (first : List Call) (blocks : Blocks) : Type 0 where
  pub one : HasOneImageButIndex opening first blocks
  pub sound : IsSound blocks
  pub unclean : sound.head.clean ≡ false
  pub named : sound.head.geometry.nonce < 2 ^ 64
