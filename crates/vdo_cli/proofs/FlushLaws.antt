-- What a flush leaves of a device.
use Rattle.std.proofs.Common.{ℕ, ◌≡◌, false, List, ◌∷◌, sym, subst}
use Rattle.disk_model.specs.declared.call.Call.{Call}
use Rattle.disk_model.specs.declared.call.Call.TheVariants.{Flush}
use Rattle.disk_model.specs.Images.{IsImage}
use Rattle.disk_model.specs.Log.{Blocks, block_at}
use Rattle.disk_model.specs.Seen.{Seen}
use Rattle.disk_model.specs.Trust.{Trust}
use Rattle.disk_model.proofs.ImageLaws.{settled_are_contents}
use Rattle.disk_model.proofs.LookedLaws.{one_in-flush}
use Rattle.image_model.specs.Looked.{HasOneImageButIndex, looked_in}
use Rattle.rebuild.specs.Recoveries.{IsTold}
use Rattle.vdo_cli.specs.Flushes.{IsFlushed, Settles}

-- behind the flush there is the one image that it would leave
pub told_behind : (trust : Trust) (before flushed : Seen) (image : Blocks) → IsFlushed trust.tells before flushed → Settles trust before image → IsTold trust flushed image
told_behind trust before flushed image is settles = record {
  told = settles.told;
  fair = settles.fair;
  one =
      subst (λ (opening : Blocks). HasOneImageButIndex opening flushed.log image) (sym is.stays.opening)
      (subst (λ (log : List Call). HasOneImageButIndex before.opening log image) (sym (is.logged settles.told)) settles.one);
}

-- where nothing is pending, that is the one that there is
pub told_settles : (trust : Trust) (now : Seen) (image : Blocks) → IsTold trust now image → Settles trust now image
told_settles trust now image told = record {
  told = told.told;
  fair = told.fair;
  one =
      let one = told.one in
      one_in-flush (looked_in image) now.opening now.log image one.size one.whole
      (λ b below here. settled_are_contents (λ (content : List ℕ). content ≡ block_at image b) now.opening now.log b (one.only b below here));
}

-- a flush that failed changes nothing
pub image_behind_failed : (opening : Blocks) (log : List Call) (image : Blocks) → IsImage opening (Flush false ∷ log) image → IsImage opening log image
image_behind_failed opening log image is = record { size = is.size; whole = is.whole; sectors = is.sectors }
