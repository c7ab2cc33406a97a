-- What a recovery leaves of a sound image, and what stops leave of it until a session begins.
use Rattle.std.proofs.Common.{ℕ, ◌≡◌, ◌++◌, ◌≤◌, true, false, Option, List, [], Ok, refl, sym, ◌∙◌, ap, append_assoc, inl, inr, arith}
use Rattle.blk_base.specs.Regions.{needed_blocks}
use Rattle.blk_base.specs.declared.geometry.Super.{Super}
use Rattle.blk_base.specs.declared.opened.Opened.{Opened}
use Rattle.disk_model.specs.Log.{Blocks}
use Rattle.disk_model.specs.Seen.{Seen}
use Rattle.disk_model.specs.Trust.{Trust}
use Rattle.disk_model.specs.Since.{IsUntouched, OnlyReads, SinceThen}
use Rattle.disk_model.specs.declared.call.Call.{Call}
use Rattle.image_model.specs.Maps.{value_of}
use Rattle.image_model.specs.Sound.{IsSound}
use Rattle.image_model.specs.declared.fault.ImageFault.{ImageFault}
use Rattle.recovery_laws.proofs.InsideLaws.{reads_below}
use Rattle.recovery_laws.specs.Kept.{AreInside, image_in}
use Rattle.rebuild.proofs.KeptLaws.{opened_alike}
use Rattle.rebuild.proofs.ReadLaws.{still}
use Rattle.rebuild.specs.Outcomes.{IsKeptSince}
use Rattle.rebuild.specs.Recoveries.{IsRecovery, IsTold}
use Rattle.rebuild.specs.declared.forms.Recovered.{Recovered}
use Rattle.rebuild.specs.declared.forms.Recovered.TheVariants.{Clean, Entries}
use Rattle.core_stops.proofs.EarlyLaws.{early_shows}
use Rattle.core_stops.proofs.InsideLaws.{inside_both}
use Rattle.core_stops.proofs.SequenceLaws.{recovered_next, served}
use Rattle.core_stops.specs.Logs.{StopsShow}
use Rattle.core_stops.specs.Sequences.{ShowsValues, next_start}
use Rattle.vdo_cli.specs.Endings.{KeepsImage}
use Rattle.vdo_cli.specs.Openings.{IsReady, IsUnready}

-- what is known of a device is known of it behind reads
pub still_told : (trust : Trust) (before now : Seen) (image : Blocks) → IsTold trust before image → IsUntouched trust.tells before now → IsTold trust now image
still_told trust before now image is untouched = record { told = is.told; fair = is.fair; one = still trust image is.told is.fair before now untouched is.one }

-- Nothing is pending, and the one image is sound and closed: it has the sizes and the values of another one, and the next session
-- begins where it would have begun there.
pub record IsLeft (image : Blocks) (sound : IsSound image) (trust : Trust) (now : Seen) : Type 0 where
  pub left : Blocks
  pub is_told : IsTold trust now left
  pub is_sound : IsSound left
  pub clean : is_sound.head.clean ≡ true
  pub geometry : is_sound.head.geometry ≡ sound.head.geometry
  pub values : (a : ℕ) → value_of (image_in left is_sound) a ≡ value_of (image_in image sound) a
  pub next : next_start left is_sound ≡ next_start image sound

pub left_by : (trust : Trust) (before now : Seen) (image : Blocks) (sound : IsSound image) (found : Recovered) → IsTold trust before image
    → IsRecovery trust before now (Ok found) → IsLeft image sound trust now
left_by trust before now image sound Clean is recovery =
    let answer = recovery.says image is in
    let both : Ok sound.head ≡ Ok answer.0 = sym sound.opens.accepted ∙ answer.1 in
    let same : sound.head ≡ answer.0 = cc both in
    record {
      left = image;
      is_told = still_told trust before now image is recovery.answers.3;
      is_sound = sound;
      clean = ap (λ (h : Super). h.clean) same ∙ answer.2;
      geometry = refl;
      values = λ a. refl;
      next = refl;
    }
left_by trust before now image sound (Entries count) is recovery =
    let closed = recovery.closed image is sound in
    let answer = recovery.says image is in
    let same = (opened_alike image sound answer.0 answer.1 answer.2 answer.3).0 in
    let unclean : sound.head.clean ≡ false = ap (λ (h : Super). h.clean) (sym same) ∙ answer.4 in
    record {
      left = closed.0;
      is_told = record { told = is.told; fair = is.fair; one = closed.1 };
      is_sound = closed.2.kept.sound;
      clean = ap (λ (h : Super). h.clean) closed.2.closed;
      geometry = closed.2.kept.same.geometry;
      values = closed.2.kept.same.values;
      next = recovered_next image closed.0 sound unclean closed.2;
    }

-- Whatever a stop leaves of a sound image while it is recovered, and then read, says the same.
module _ (trust : Trust) (before middle : Seen) (image : Blocks) (sound : IsSound image) (is : IsTold trust before image) (kept : IsKeptSince image sound before middle) (most logical : ℕ)
    (few : next_start image sound ≤ most) where
  abbrev Shows : List Call → Type 0
  Shows = StopsShow (ShowsValues sound.head.geometry most) before.opening before.log logical (value_of (image_in image sound))

  -- and no block behind it is written
  abbrev Keeps : List Call → Type 0
  Keeps calls = Shows calls × AreInside sound.head.geometry calls

  recovered_shows : (reads : List Call) → OnlyReads reads → Keeps (reads ++ kept.0)
  recovered_shows reads only = (
    early_shows before.opening image before.log sound most logical few kept.0 reads only (served before.opening image before.log sound is.one kept.0 kept.2),
    inside_both sound.head.geometry reads kept.0 (reads_below (needed_blocks sound.head.geometry) reads only) kept.2.inside,
  )

  pub shows_yet : SinceThen Keeps before.log middle.log
  shows_yet = (kept.0, kept.1, recovered_shows [] tt)

  pub shows_on : (now : Seen) → IsUntouched trust.tells middle now → SinceThen Keeps before.log now.log
  shows_on now untouched =
      let reads = untouched.reads is.told in (
        reads.0 ++ kept.0,
        reads.1 ∙ ap (λ (l : List Call). reads.0 ++ l) kept.1 ∙ sym (append_assoc reads.0 kept.0 before.log),
        recovered_shows reads.0 reads.2,
      )

-- So of an image that is ready, and of one that isn't.

module _ (trust : Trust) (before now : Seen) (image : Blocks) (told : IsTold trust before image) (sound : IsSound image) where
  pub ready_shows : (found : Recovered) (start : Opened) → IsReady trust before now found start → (most logical : ℕ) → next_start image sound ≤ most
      → SinceThen (λ calls. StopsShow (ShowsValues sound.head.geometry most) before.opening before.log logical (value_of (image_in image sound)) calls × AreInside sound.head.geometry calls) before.log now.log
  ready_shows found start is most logical few =
      shows_on trust before is.middle image sound told (is.recovery.stops image told sound) most logical few now is.opening.untouched

pub ready_kept : (trust : Trust) (before now : Seen) (found : Recovered) (start : Opened) → IsReady trust before now found start → KeepsImage trust before now
ready_kept trust before now found start is image told sound =
    ready_shows trust before now image told sound found start is (next_start image sound) sound.head.geometry.logical (omega arith)

pub unready_kept : (trust : Trust) (before now : Seen) (recovered : Option ℕ) (why : ImageFault) → IsUnready trust before now recovered why → KeepsImage trust before now
unready_kept trust before now recovered why (inl is) image told sound =
    shows_yet trust before now image sound told (is.recovery.stops image told sound) (next_start image sound) sound.head.geometry.logical (omega arith)
unready_kept trust before now recovered why (inr is) image told sound =
    shows_on trust before is.middle image sound told (is.recovery.stops image told sound) (next_start image sound) sound.head.geometry.logical (omega arith) now is.opening.untouched

-- The device has room for what was opened, and its sizes are within their limits.
pub room_of : (trust : Trust) (before now : Seen) (found : Recovered) (start : Opened) → IsReady trust before now found start → needed_blocks start.head.geometry ≤ now.size
room_of trust before now found start is =
    let room = is.opening.head.1.room in
    let same = is.opening.untouched.stays.size in
    omega (arith, room, same)
