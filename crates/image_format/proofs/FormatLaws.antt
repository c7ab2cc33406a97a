-- What holds of a device on which an image was made, or was to be made.
use Rattle.std.proofs.Common.{ℕ, ◌≡◌, ◌≤◌, ◌<◌, ◌^◌, Bool, IsTrue, List, [], ◌∷◌, ◌++◌, length, refl, sym, ◌∙◌, ap, subst, inl, inr, arith, append_assoc}
use Rattle.blk_base.specs.Limits.{IsGeometry}
use Rattle.blk_base.specs.Regions.{needed_blocks}
use Rattle.blk_base.specs.declared.geometry.Geometry.{Geometry}
use Rattle.disk_model.specs.declared.call.Call.{Call}
use Rattle.disk_model.specs.declared.call.Call.TheVariants.{Read, Write, Flush}
use Rattle.disk_model.specs.Images.{IsImage, HasOneImage}
use Rattle.disk_model.specs.Log.{Blocks, block_at}
use Rattle.disk_model.specs.Seen.{Seen}
use Rattle.disk_model.specs.LogSteps.{FailedInLog}
use Rattle.disk_model.proofs.OneImageLaws.{one_image-later, one_image-opening, one_image-unique}
use Rattle.image_format.specs.Calls.{format_calls}
use Rattle.image_format.specs.Formats.{AreStopsRight, IsFailed, LastFailed, LeavesEmpty, StopsAreRight}
use Rattle.image_format.specs.Runs.{OneFailed, WereMade, as_failed}
use Rattle.image_format.proofs.AfterLaws.{made_is}
use Rattle.image_format.proofs.StopLaws.{stands_at_first, stops_failed, stops_made}
use Rattle.image_model.proofs.EmptyLaws.{is_unused}

-- Nothing was called.
none_moved : (older newer : List Call) → [] ≡ newer ++ older → older ≡ []
none_moved older [] same = sym same
none_moved older (call ∷ newer) same = absurd (cc same)

untouched_stands : (g : Geometry) (old : Blocks) (opening : Blocks) (first : List Call) → HasOneImage opening first old → AreStopsRight g old opening first []
untouched_stands g old opening first one newer older image same is =
    let whole : (b : ℕ) → b < length old → length (block_at old b) ≡ 4096 = λ b below. one.whole b (let size = one.size in omega (arith, size, below)) in
    let here : IsImage old [] image = subst (λ (calls : List Call). IsImage old calls image) (none_moved older newer same) (one_image-later opening first older old image one is) in
    let unchanged : image ≡ old = one_image-unique old [] old image (one_image-opening old whole) here in
    record { data_kept = λ b below other. ap (λ (blocks : Blocks). block_at blocks b) unchanged; stands = stands_at_first old whole image here }

pub refused_stops : (g : Geometry) (before now : Seen) → now ≡ before → StopsAreRight g before now
refused_stops g before now same =
    ([], ap (λ (seen : Seen). seen.log) same, λ old one. untouched_stands g old before.opening before.log one)

-- Why a call failed.
failed_call : (call : Call) → IsFailed (as_failed call)
failed_call (Read _ _ _) = refl
failed_call (Write _ _ _) = refl
failed_call (Flush _) = refl

pub last_failed : (tells : Bool) (before now : Seen) (calls : List Call) → OneFailed tells before now calls → LastFailed tells before now
last_failed tells before now calls failed = record {
  rose = failed.rose;
  logged = λ told. (as_failed failed.call, failed.done, failed_call failed.call, failed.logged told);
}

module _ (tells : Bool) (g : Geometry) (before now : Seen) (sizes : IsGeometry g) (named : g.nonce < 2 ^ 64) (told : length before.opening ≡ before.size) (room : needed_blocks g ≤ before.size) where
  whole_of : (old : Blocks) → HasOneImage before.opening before.log old → (b : ℕ) → b < length old → length (block_at old b) ≡ 4096
  whole_of old one b below = one.whole b (let size = one.size in omega (arith, size, below))

  room_of : (old : Blocks) → HasOneImage before.opening before.log old → needed_blocks g ≤ length old
  room_of old one = let size = one.size in omega (arith, size, told, room)

  some_of : (old : Blocks) → HasOneImage before.opening before.log old → 0 < length old
  some_of old one = let enough = room_of old one in omega (arith, enough)

  pub made_stops : IsTrue tells → WereMade tells before now (format_calls g) → StopsAreRight g before now
  made_stops tell made = (
    format_calls g,
    made.logged tell,
    λ old one. stops_made old (whole_of old one) (some_of old one) g sizes named (room_of old one) before.opening before.log one [] (format_calls g) refl,
  )

  failed_in_log : (front done : List Call) (call : Call) (lost : Type 0) → format_calls g ≡ front ++ (call ∷ done) → FailedInLog (done ++ before.log) now.log (as_failed call) lost → StopsAreRight g before now
  failed_in_log front done call lost parts (inl logged) = (
    as_failed call ∷ done,
    logged,
    λ old one. stops_failed old (whole_of old one) (some_of old one) g sizes named (room_of old one) before.opening before.log one front done call parts,
  )
  failed_in_log front done call lost parts (inr unkept) = (
    done,
    unkept.0,
    λ old one. stops_made old (whole_of old one) (some_of old one) g sizes named (room_of old one) before.opening before.log one (front ++ (call ∷ [])) done
        (parts ∙ sym (append_assoc front (call ∷ []) done)),
  )

  pub failed_stops : IsTrue tells → OneFailed tells before now (format_calls g) → StopsAreRight g before now
  failed_stops tell failed = failed_in_log failed.newer failed.done failed.call _ failed.parts (failed.logged tell)

  pub made_leaves : IsTrue tells → WereMade tells before now (format_calls g) → LeavesEmpty g before now
  made_leaves tell made old one =
      let is = made_is old (whole_of old one) before.opening before.log one g sizes named (room_of old one) now.log (made.logged tell) in
      record {
        image = is.0;
        stands = subst (λ (opening : Blocks). HasOneImage opening now.log is.0) (sym made.stays.opening) is.1;
        empty = is.2;
        unused = is_unused g is.0 is.2;
        data_kept = is.3;
      }
