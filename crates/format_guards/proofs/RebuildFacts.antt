-- What a forced rebuild leaves of an honest device's image.
use Rattle.std.proofs.Common.{ℕ, ◌≡◌, List, ◌++◌, Result, Ok, Err, OnOk}
use Rattle.disk_model.specs.declared.call.Call.{Call}
use Rattle.disk_model.specs.Images.{IsImage}
use Rattle.disk_model.specs.Log.{Blocks}
use Rattle.disk_model.specs.Seen.{Seen}
use Rattle.disk_model.specs.Trust.{Trust}
use Rattle.force_rebuild.specs.ForcedRebuild.{IsForcing, IsToRebuild, LeavesRebuilt}
use Rattle.force_rebuild.specs.Rebuildable.{IsRebuildable, rebuildable_image}
use Rattle.force_rebuild.specs.declared.forms.Forced.{Forced}
use Rattle.image_model.specs.Looked.{HasOneImageButIndex}
use Rattle.image_model.specs.Maps.{value_of}
use Rattle.image_model.specs.Sound.{AreTrue, IsSound}
use Rattle.image_model.specs.declared.fault.ImageFault.{ImageFault}
use Rattle.rebuild.specs.Recoveries.{IsTold}
use Rattle.recovery_laws.specs.Kept.{image_in}

pub counts_true : (trust : Trust) (before now : Seen) (result : Result Forced ImageFault) → IsForcing trust before now result
    → OnOk result ((blocks : Blocks) → IsTold trust before blocks → IsToRebuild blocks
    → (image : Blocks) × HasOneImageButIndex now.opening now.log image × (sound : IsSound image) × AreTrue (image_in image sound))
counts_true trust before now (Ok forced) is = λ blocks told to.
    let left : LeavesRebuilt blocks now = is.rebuilt blocks told in let one = left to in (one.0, one.1, one.2.sound, one.2.sound.counts)
counts_true trust before now (Err why) is = tt

abbrev pub LeavesEach : (blocks : Blocks) → IsRebuildable blocks → Blocks → List Call → List Call → Type 0
LeavesEach blocks old opening first calls = (newer older : List Call) (image : Blocks) → calls ≡ newer ++ older → IsImage opening (older ++ first) image
    → (left : IsRebuildable image) × ((address : ℕ) → value_of (rebuildable_image image left) address ≡ value_of (rebuildable_image blocks old) address)

pub stops_keep : (trust : Trust) (before now : Seen) (result : Result Forced ImageFault) → IsForcing trust before now result
    → (blocks : Blocks) (to : IsToRebuild blocks) → IsTold trust before blocks
    → (calls : List Call) × (now.log ≡ calls ++ before.log) × LeavesEach blocks to.is before.opening before.log calls
stops_keep trust before now result is blocks to told =
    let since = is.stops blocks told to in (
      since.0,
      since.1,
      λ newer older image parts stop. let kept = since.2.kept newer older image parts stop in (kept.rebuildable, kept.same.values),
    )
