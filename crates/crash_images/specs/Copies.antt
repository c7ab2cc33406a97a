-- The copy of a device in memory.
use Rattle.std.specs.Prelude.{◌≡◌, true, length, reverse}
use Rattle.disk_model.specs.Log.{Blocks}
use Rattle.disk_model.specs.Memory.{Memory, fresh}
use Rattle.disk_model.specs.Seen.{Seen}
use Rattle.disk_model.specs.Trust.{Trust, trust_of}
use Rattle.disk_model.specs.Since.{WereRead}
use Rattle.rebuild.specs.Recoveries.{IsTold}

-- a device in memory whose log begins at these blocks: all of the device, as they were read since
abbrev pub IsCopy : Trust → Seen → Seen → Memory → Type 0
IsCopy trust before now copy =
    (blocks : Blocks) × (copy ≡ fresh blocks) × (length blocks ≡ before.size) × WereRead trust 0 before now (reverse blocks)

-- the one image of the device, the index aside, is that of the other one too
abbrev pub KeepsImage : Trust → Seen → Seen → Type 0
KeepsImage trust before copy = (image : Blocks) → IsTold trust before image → IsTold (trust_of true true) copy image
