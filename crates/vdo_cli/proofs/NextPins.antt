-- Rows that pin what a run leaves to the next one (`LeavesRunnable`, `LeavesReady`, and their parts `MayBegin` and `HasLanded`): for each some that it accepts, and some that break one part alone.
use Rattle.std.proofs.Common.{ℕ, ◌≡◌, ◌^◌, ◌++◌, ◌∙◌, true, false, List, [], ◌∷◌, length, refl, sym, ap, subst, arith}
use Rattle.std.specs.List.{AllByRecursion}
use Rattle.disk_model.proofs.LookedLaws.{one_in-all}
use Rattle.disk_model.proofs.OneImageLaws.{one_image-is_image, one_image-opening, one_image-unique}
use Rattle.blk_base.specs.Forms.{pbn as at}
use Rattle.disk_model.specs.declared.call.Call.{Call}
use Rattle.disk_model.specs.declared.call.Call.TheVariants.{Flush, Write}
use Rattle.disk_model.specs.Images.{HasOneImage, IsImage}
use Rattle.disk_model.specs.Log.{Blocks}
use Rattle.disk_model.specs.Seen.{Seen}
use Rattle.disk_model.specs.Trust.{trust_of}
use Rattle.image_model.specs.Looked.{looked_in}
use Rattle.image_model.specs.Sound.{IsSound}
use Rattle.rebuild.specs.Recoveries.{IsTold}
use Rattle.core_stops.specs.Sequences.{CanBegin, next_start}
use Rattle.vdo_cli.specs.Onward.{HasLanded, IsJustMade, LeavesReady, LeavesRunnable, MayBegin}
use Rattle.vdo_cli.proofs.FlushLaws.{told_settles}
use Rattle.vdo_cli.proofs.NextRuns.{made_told}
use Rattle.vdo_cli.proofs.PlayPins.{device}

-- a device that was just made of these blocks, and one that has a call in its log
just-made : (image : Blocks) → IsJustMade image (device image [] 7 0)
just-made image = (refl, refl)

just-not_called : (image : Blocks) (call : Call) → IsJustMade image (device image (call ∷ []) 0 0) → ⊥
just-not_called image call made = let size = ap length made.1 in omega (arith, size)

-- A call may begin on a device that was just made of an image on which a run may.
module _ (image : Blocks) (can : CanBegin 5 image) where
  alone : HasOneImage image [] image
  alone = one_image-opening image can.whole

  is_image : IsImage image (Flush true ∷ []) image
  is_image = record { size = alone.size; whole = alone.whole; sectors = (one_image-is_image image [] image alone).sectors }

  told : IsTold (trust_of true true) (device image [] 0 0) image
  told = record { told = refl; fair = refl; one = one_in-all (looked_in image) image [] image alone }

  begins-made : MayBegin (trust_of true true) 5 (device image [] 0 0)
  begins-made = record {
    geometry = can.sound.head.geometry;
    each = λ stop is. subst (λ (b : Blocks). (own : CanBegin 5 b) × (own.sound.head.geometry ≡ can.sound.head.geometry)) (sym (one_image-unique image [] image stop alone is)) (can, refl);
    image = image;
    stands = is_image;
    settles = told_settles (trust_of true true) (device image [] 0 0) image told;
  }

  -- not on one that isn't honest, nor with an image that isn't sound among those that a stop may leave, or one of other sizes
  begins-not_unfair : (now : Seen) → MayBegin (trust_of true false) 5 now → ⊥
  begins-not_unfair now begin = let fair = begin.settles.fair in absurd (cc fair)

  begins-not_unsound : (now : Seen) (stop : Blocks) → IsImage now.opening now.log stop → (IsSound stop → ⊥) → MayBegin (trust_of true true) 5 now → ⊥
  begins-not_unsound now stop is never begin = never (begin.each stop is).0.sound

  begins-not_of_two_sizes : (now : Seen) (stop : Blocks) → IsImage now.opening now.log image → IsImage now.opening now.log stop
      → ((own : CanBegin 5 image) (other : CanBegin 5 stop) → own.sound.head.geometry ≡ other.sound.head.geometry → ⊥) → MayBegin (trust_of true true) 5 now → ⊥
  begins-not_of_two_sizes now stop one two differ begin =
      let first = begin.each image one in
      let second = begin.each stop two in
      differ first.0 second.0 (first.1 ∙ sym second.1)

-- HasLanded: reads, flushes, and a write of a whole block that succeeded
landed-whole : (bytes : List ℕ) → length bytes ≡ 4096 → HasLanded (Write (at 3) bytes true)
landed-whole bytes size = size

landed-failed_flush : HasLanded (Flush false)
landed-failed_flush = tt

landed-not_failed_write : (bytes : List ℕ) → HasLanded (Write (at 3) bytes false) → ⊥
landed-not_failed_write bytes landed = landed

landed-not_a_part : HasLanded (Write (at 3) (7 ∷ []) true) → ⊥
landed-not_a_part landed = omega (arith, landed)

-- Accepted: nothing was done to a device on which a run may begin.
module _ (image : Blocks) (can : CanBegin 5 image) where
  nothing_before : (later prefix : List Call) → [] ≡ later ++ (prefix ++ []) → prefix ≡ []
  nothing_before [] [] same = refl
  nothing_before [] (call ∷ prefix) same = absurd (cc same)
  nothing_before (call ∷ later) prefix same = absurd (cc same)

  leaves-itself : LeavesRunnable (trust_of true true) 5 (device image [] 0 0) (device image [] 0 0)
  unfolding begins-made
  leaves-itself later prefix parts stop is =
      let here : IsImage image [] stop = subst (λ (log : List Call). IsImage image (log ++ []) stop) (nothing_before later prefix parts) is in
      let same : stop ≡ image = one_image-unique image [] image stop (alone image can) here in (
        subst (CanBegin 5) (sym same) can,
        λ made just. made_so made (just.0 ∙ same) just.1,
      )
    where
      made_so : (made : Seen) → made.opening ≡ image → made.log ≡ [] → MayBegin (trust_of true true) 5 made
      made_so made opening log =
          let begin = begins-made image can in
          record {
            geometry = begin.geometry;
            each = λ stop is. begin.each stop (subst (λ (calls : List Call). IsImage image calls stop) log (subst (λ (b : Blocks). IsImage b made.log stop) opening is));
            image = image;
            stands =
                subst (λ (b : Blocks). IsImage b (Flush true ∷ made.log) image) (sym opening)
                (subst (λ (calls : List Call). IsImage image (Flush true ∷ calls) image) (sym log) begin.stands);
            settles = told_settles (trust_of true true) made image (made_told (trust_of true true) made image refl refl (alone image can) (opening, log));
          }

  -- nor to the device itself
  ready-itself : LeavesReady (trust_of true true) 5 (device image [] 0 0) (device image [] 0 0)
  unfolding begins-made
  ready-itself later prefix parts landed then opening log =
      let none : then.log ≡ [] = log ∙ ap (λ (calls : List Call). calls ++ []) (nothing_before later prefix parts) in
      let begin = begins-made image can in
      record {
        geometry = begin.geometry;
        each = λ stop is. begin.each stop (subst (λ (calls : List Call). IsImage image calls stop) none (subst (λ (b : Blocks). IsImage b then.log stop) opening is));
        image = image;
        stands =
            subst (λ (b : Blocks). IsImage b (Flush true ∷ then.log) image) (sym opening)
            (subst (λ (calls : List Call). IsImage image (Flush true ∷ calls) image) (sym none) begin.stands);
        settles = told_settles (trust_of true true) then image (made_told (trust_of true true) then image refl refl (alone image can) (opening, none));
      }

-- refused: a moment leaves an image that isn't sound, or on which fewer sequences are left
module _ (before after : Seen) (later prefix : List Call) (stop : Blocks) (parts : after.log ≡ later ++ (prefix ++ before.log)) (is : IsImage before.opening (prefix ++ before.log) stop) where
  leaves-not_unsound : LeavesRunnable (trust_of true true) 5 before after → (IsSound stop → ⊥) → ⊥
  leaves-not_unsound leaves never = let next = leaves later prefix parts stop is in never next.0.sound

  leaves-not_used_up : LeavesRunnable (trust_of true true) 5 before after → ((own : IsSound stop) → next_start stop own ≡ 2 ^ 54) → ⊥
  leaves-not_used_up leaves used =
      let next = leaves later prefix parts stop is in
      let late = next.0.late in
      let all = used next.0.sound in
      omega (arith, late, all)

-- refused: at a moment, with what a program wrote by then and none of it flushed, a stop may leave an image that isn't sound
module _ (before after then : Seen) (later prefix : List Call) (stop : Blocks) (parts : after.log ≡ later ++ (prefix ++ before.log)) (landed : AllByRecursion HasLanded prefix)
    (opening : then.opening ≡ before.opening) (log : then.log ≡ prefix ++ before.log) (is : IsImage then.opening then.log stop) where
  ready-not_unsound : LeavesReady (trust_of true true) 5 before after → (IsSound stop → ⊥) → ⊥
  ready-not_unsound leaves never = never ((leaves later prefix parts landed then opening log).each stop is).0.sound
