-- The laws of an image that grows as they are promised.
use Rattle.std.proofs.Common.{ℕ, ◌≡◌, ◌<◌, ◌≤◌, List, ◌∷◌, ◌++◌, length, ◌∙◌, ap, arith}
use Rattle.blk_base.specs.Sectors.{zero_block}
use Rattle.blk_base.specs.declared.place.Mapping.{Mapping}
use Rattle.disk_model.specs.declared.call.Call.{Call}
use Rattle.disk_model.specs.Log.{Blocks, block_at}
use Rattle.image_format.specs.Runs.{as_failed}
use Rattle.image_model.specs.Looked.{HasOneImageButIndex}
use Rattle.image_model.specs.Maps.{value_of, value_with}
use Rattle.image_model.specs.Sound.{IsSound}
use Rattle.recovery_laws.specs.Kept.{image_in}
use Rattle.grow_image.proofs.MomentLaws.{at_last_one, failures, stops}
use Rattle.grow_image.specs.Calls.{grow_calls}
use Rattle.grow_image.specs.Kept.{AreStopsRight, AreUnmapped, IsGrown, IsToGrow}

module _ (base : Blocks) (sound : IsSound base) (logical slabs : ℕ) (to : IsToGrow base sound logical slabs) (opening : Blocks) where
  whole : (first : List Call) → HasOneImageButIndex opening first base → (b : ℕ) → b < length base → length (block_at base b) ≡ 4096
  whole first one b below = one.whole b (let size = one.size in omega (arith, size, below))

  pub stops_of : (first front calls : List Call) → HasOneImageButIndex opening first base → grow_calls sound.head logical slabs ≡ front ++ calls
      → AreStopsRight base sound logical slabs opening first calls
  stops_of first front calls one parts = stops base sound logical slabs to (whole first one) opening first one front calls parts

  pub failures_of : (first front done : List Call) (call : Call) → HasOneImageButIndex opening first base → grow_calls sound.head logical slabs ≡ front ++ (call ∷ done)
      → AreStopsRight base sound logical slabs opening first (as_failed call ∷ done)
  failures_of first front done call one parts = failures base sound logical slabs to (whole first one) opening first one front done call parts

  pub grown_of : (first : List Call) → HasOneImageButIndex opening first base
      → (now : Blocks) × HasOneImageButIndex opening (grow_calls sound.head logical slabs ++ first) now × IsGrown base sound logical slabs now
  grown_of first one = at_last_one base sound logical slabs to (whole first one) opening first one

pub fresh_zeros : (base now : Blocks) (sound : IsSound base) (logical slabs : ℕ) (grown : IsGrown base sound logical slabs now) → AreUnmapped (image_in base sound) logical
    → (address : ℕ) → sound.head.geometry.logical ≤ address → address < logical → value_of (image_in now grown.grown) address ≡ zero_block
fresh_zeros base now sound logical slabs grown none address behind below =
    grown.says.values address ∙ ap (λ (m : Mapping). value_with base m) (none address behind below)
