-- Where a forced rebuild may start.
use Rattle.std.specs.Prelude.{◌+◌, ◌<◌, ◌^◌, IsTrue}
use Rattle.disk_model.specs.Log.{Blocks}
use Rattle.disk_model.specs.Seen.{Seen}
use Rattle.disk_model.specs.Trust.{Trust}
use Rattle.image_model.specs.Looked.{HasOneImageButIndex}
use Rattle.image_model.specs.Maps.{Image}
use Rattle.force_rebuild.specs.Rebuildable.{IsRebuildable, rebuildable_image}

-- A device that tells and is honest, on which nothing is pending but in the index, and whose one image can be rebuilt, and once more behind that.
pub record IsStart (trust : Trust) (first : Seen) (blocks : Blocks) : Type 0 where
  pub told : IsTrue trust.tells
  pub fair : IsTrue trust.honest
  pub one : HasOneImageButIndex first.opening first.log blocks
  pub is : IsRebuildable blocks
  pub more : is.last + 3 < 2 ^ 54
  pub named : is.head.geometry.nonce < 2 ^ 64

-- its image
abbrev pub image_at : {trust : Trust} → {first : Seen} → (blocks : Blocks) → IsStart trust first blocks → Image
image_at blocks start = rebuildable_image blocks start.is
