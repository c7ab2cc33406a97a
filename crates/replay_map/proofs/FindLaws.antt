-- Why pages give no map, by why the walk over them ends early.
use Rattle.std.proofs.Common.{Bool, List}
use Rattle.blk_base.specs.declared.geometry.Geometry.{Geometry}
use Rattle.blk_base.specs.declared.place.Mapping.{Mapping}
use Rattle.blk_base.specs.declared.sizes.TheConstants.{TREES}
use Rattle.disk_model.specs.Seen.{Seen}
use Rattle.disk_model.specs.Trust.{Trust}
use Rattle.image_model.specs.Faults.{IsPageFault}
use Rattle.image_model.specs.declared.fault.ImageFault.{ImageFault}
use Rattle.image_model.specs.declared.fault.ImageFault.TheVariants.{Super, Window, Page, Counter, SharedPage, Counts, Device, Unclean, Memory}
use Rattle.replay_map.proofs.ReadLaws.{shown_as}
use Rattle.replay_map.proofs.TreeLaws.{whole_fault}
use Rattle.replay_map.specs.FoundPages.{FindFails}
use Rattle.replay_map.specs.Walks.{IsFirstFault, IsInTrees, WalkFails}
use Rattle.replay_map.specs.declared.changes.SlotId.{SlotId}

pub walk_fails : (trust : Trust) (g : Geometry) (changes : List (SlotId × Mapping)) (before now : Seen) (why : ImageFault)
    → WalkFails trust g changes before now (λ image. Unit {0}) (IsInTrees TREES) why → FindFails trust g changes before now why
walk_fails trust g changes before now (Page at fault) fails =
    shown_as trust g changes before now (λ image. Unit {0} → IsFirstFault image (IsInTrees TREES) at fault) (λ image. IsPageFault image at fault) fails
    (λ image is. whole_fault image at fault (is tt))
walk_fails trust g changes before now Device fails = fails
walk_fails trust g changes before now Memory fails = tt
walk_fails trust g changes before now (SharedPage at) fails = absurd fails
walk_fails trust g changes before now (Super fault) fails = absurd fails
walk_fails trust g changes before now (Window sequence) fails = absurd fails
walk_fails trust g changes before now (Counter at point) fails = absurd fails
walk_fails trust g changes before now (Counts at stored mapped) fails = absurd fails
walk_fails trust g changes before now Unclean fails = absurd fails
