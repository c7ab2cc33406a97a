-- What the pages of an image give together, by its changes.
use Rattle.std.specs.Prelude.{ℕ, List}
use Rattle.blk_base.specs.declared.geometry.Geometry.{Geometry}
use Rattle.blk_base.specs.declared.place.Mapping.{Mapping}
use Rattle.disk_model.specs.Seen.{Seen}
use Rattle.disk_model.specs.Trust.{Trust}
use Rattle.image_model.specs.Faults.{IsPageFault, IsShareFault}
use Rattle.image_model.specs.Maps.{Image, ArePagesGood}
use Rattle.image_model.specs.declared.fault.ImageFault.{ImageFault}
use Rattle.image_model.specs.declared.fault.ImageFault.TheVariants.{Super, Window, Page, Counter, SharedPage, Counts, Device, Unclean, Memory}
use Rattle.replay_map.specs.Reads.{IsShown, ReadFails}
use Rattle.replay_map.specs.Replayed.{HasMap}
use Rattle.replay_map.specs.declared.changes.SlotId.{SlotId}
use Rattle.replay_map.specs.declared.found.Found.{Found}
use Rattle.replay_map.specs.declared.recovered.RecoveredMap.{RecoveredMap}

-- the map with what was found, and this last sequence and so many entries
abbrev pub map_with : Found → ℕ → ℕ → RecoveredMap
map_with found last entries = record { links = found.links; slots = found.slots; mapped = found.mapped; last = last; entries = entries }

-- what was found is the map of an image
abbrev pub IsMapFound : Image → Found → Type 0
IsMapFound image found = (last entries : ℕ) → HasMap image (map_with found last entries)

-- why there is none: the first page that can't be read; or else the least shared block; a read that failed, or want of memory
abbrev pub FindFails : Trust → Geometry → List (SlotId × Mapping) → Seen → Seen → ImageFault → Type 0
FindFails trust g changes before now (Page at fault) = IsShown trust g changes before now (λ image. IsPageFault image at fault)
FindFails trust g changes before now (SharedPage at) = IsShown trust g changes before now (λ image. ArePagesGood image × IsShareFault image at)
FindFails trust g changes before now Device = ReadFails trust g before now
FindFails trust g changes before now Memory = Unit {0}
FindFails trust g changes before now (Super fault) = ⊥
FindFails trust g changes before now (Window sequence) = ⊥
FindFails trust g changes before now (Counter at point) = ⊥
FindFails trust g changes before now (Counts at stored mapped) = ⊥
FindFails trust g changes before now Unclean = ⊥
