-- What was found by the changes of a window holds of each image with this window.
use Rattle.std.proofs.Common.{Bool, List, refl}
use Rattle.blk_base.specs.declared.geometry.Geometry.{Geometry}
use Rattle.blk_base.specs.declared.journal_entry.CommittedEntry.{CommittedEntry}
use Rattle.blk_base.specs.declared.place.Mapping.{Mapping}
use Rattle.disk_model.specs.Seen.{Seen}
use Rattle.disk_model.specs.Trust.{Trust}
use Rattle.image_model.specs.Faults.{IsPageFault, IsShareFault}
use Rattle.image_model.specs.Maps.{Image, ArePagesGood, image_with}
use Rattle.image_model.specs.declared.fault.ImageFault.{ImageFault}
use Rattle.image_model.specs.declared.fault.ImageFault.TheVariants.{Super, Window, Page, Counter, SharedPage, Counts, Device, Unclean, Memory}
use Rattle.replay_map.specs.Changes.{AreNewest}
use Rattle.replay_map.specs.FoundPages.{FindFails}
use Rattle.replay_map.specs.Reads.{IsShown}
use Rattle.replay_map.specs.Replayed.{IsFound, MapFails}
use Rattle.replay_map.specs.declared.changes.SlotId.{SlotId}

module _ (trust : Trust) (g : Geometry) (changes : List (SlotId × Mapping)) (window : List CommittedEntry) (newest : AreNewest window changes) (before now : Seen) where
  pub found_by : (Says Tells : Image → Type 0) → IsShown trust g changes before now Says → ((image : Image) → Says image → Tells image) → IsFound trust g window before now Tells
  found_by Says Tells shown tell =
      (shown.0, shown.1, λ blocks shows. tell (image_with g blocks window) (shown.2 (image_with g blocks window) (record { geometry = refl; newest = newest; shows = shows })))

  pub fails_by : (why : ImageFault) → FindFails trust g changes before now why → MapFails trust g window before now why
  fails_by (Page at fault) fails = found_by (λ image. IsPageFault image at fault) (λ image. IsPageFault image at fault) fails (λ image is. is)
  fails_by (SharedPage at) fails = found_by (λ image. ArePagesGood image × IsShareFault image at) (λ image. ArePagesGood image × IsShareFault image at) fails (λ image is. is)
  fails_by Device fails = fails
  fails_by Memory fails = tt
  fails_by (Super fault) fails = absurd fails
  fails_by (Window sequence) fails = absurd fails
  fails_by (Counter at point) fails = absurd fails
  fails_by (Counts at stored mapped) fails = absurd fails
  fails_by Unclean fails = absurd fails
