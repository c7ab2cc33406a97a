-- What was done before a session leaves each address its opening value; and then all of a run.
use Rattle.std.proofs.Common.{ℕ, ◌≡◌, ◌+◌, ◌<◌, ◌≤◌, ◌^◌, List, [], ◌∷◌, ◌++◌, refl, sym, ◌∙◌, ap, subst, inl, inr, arith, append_assoc}
use Rattle.disk_model.specs.declared.call.Call.{Call}
use Rattle.disk_model.specs.declared.call.Call.TheVariants.{Read, Write, Flush}
use Rattle.disk_model.specs.Images.{IsImage, HasOneImage}
use Rattle.disk_model.specs.Log.{Blocks}
use Rattle.disk_model.specs.Since.{OnlyReads}
use Rattle.disk_model.proofs.LookedLaws.{one_in-unique}
use Rattle.disk_model.proofs.SinceLaws.{image_before}
use Rattle.blk_base.specs.declared.geometry.Geometry.{Geometry}
use Rattle.image_model.specs.Maps.{value_of}
use Rattle.image_model.specs.Sound.{IsSound}
use Rattle.image_model.specs.Looked.{HasOneImageButIndex, looked_in}
use Rattle.recovery_laws.specs.Kept.{AreKept, image_in}
use Rattle.recovery_laws.proofs.AlikeLaws.{alike_is_kept, alike_super}
use Rattle.vdo_model.specs.declared.report.RunReport.{RunReport}
use Rattle.vdo_model.specs.FlushMarks.{successes}
use Rattle.vdo_model.specs.Stops.{RightAfterStops}
use Rattle.core_stops.specs.Logs.{AreWithin, StopsRight, StopsShow, report_from}
use Rattle.core_stops.specs.Sequences.{AreStopsServed, CanBegin, ShowsValues, next_start}
use Rattle.core_stops.proofs.LogLaws.{parted, stops_right}
use Rattle.core_stops.proofs.SequenceLaws.{next_run, next_by_same}

-- Reads leave what was there.

reads_behind : (later front : List Call) → OnlyReads (later ++ front) → OnlyReads front
reads_behind [] front reads = reads
reads_behind (Read at bytes ok ∷ later) front reads = reads_behind later front reads
reads_behind (Write at bytes ok ∷ later) front reads = absurd reads
reads_behind (Flush ok ∷ later) front reads = absurd reads

module _ (opening blocks : Blocks) (first : List Call) (sound : IsSound blocks) (most logical : ℕ) (few : next_start blocks sound ≤ most) where
  abbrev g : Geometry
  g = sound.head.geometry

  abbrev values : ℕ → List ℕ
  values = value_of (image_in blocks sound)

  shows_kept : (now : Blocks) (kept : AreKept (image_in blocks sound) now) → next_start now kept.sound ≡ next_start blocks sound → ShowsValues g most now (value_of (image_in now kept.sound))
  shows_kept now kept next = record {
    sound = kept.sound;
    sizes = kept.same.geometry;
    next = omega (arith, few, next);
    values_are = λ a. refl;
  }

  pub early_shows : (calls reads : List Call) → OnlyReads reads → AreStopsServed opening first blocks sound calls
      → StopsShow (ShowsValues g most) opening first logical values (reads ++ calls)
  early_shows calls reads only served later prefix same image is = elim (parted later prefix reads calls (sym same)) [
    | inl within ↦
        let front_only : OnlyReads within.0 = reads_behind later within.0 (subst OnlyReads within.1 only) in
        let here : IsImage opening (within.0 ++ (calls ++ first)) image = subst (λ (log : List Call). IsImage opening log image)
        (ap (λ (l : List Call). l ++ first) within.2 ∙ append_assoc within.0 calls first) is in
        let kept = served [] calls image refl (image_before opening (calls ++ first) within.0 image front_only here) in
        (value_of (image_in image kept.0.sound), shows_kept image kept.0 kept.1, λ a below. kept.0.same.values a)
    | inr back ↦
        let kept = served back.0 prefix image back.2 is in
        (value_of (image_in image kept.0.sound), shows_kept image kept.0 kept.1, λ a below. kept.0.same.values a)
  ]

  -- where nothing was to be recovered
  pub reads_show : (reads : List Call) → OnlyReads reads → HasOneImageButIndex opening first blocks → StopsShow (ShowsValues g most) opening first logical values reads
  reads_show reads only one later prefix same image is =
      let front_only : OnlyReads prefix = reads_behind later prefix (subst OnlyReads same only) in
      let alike = one_in-unique (looked_in blocks) opening first blocks image one (image_before opening first prefix image front_only is) in
      let kept = alike_is_kept blocks image sound alike in
      let next = next_by_same blocks image sound alike.size kept (alike_super blocks image sound alike) in
      (value_of (image_in image kept.sound), shows_kept image kept next, λ a below. kept.same.values a)

-- All of a run.
module _ (opening blocks : Blocks) (entry earlier session : List Call) (sound : IsSound blocks) (logical most left : ℕ) (report : RunReport) (within : AreWithin session report.marks)
    (early : StopsShow (ShowsValues sound.head.geometry most) opening entry logical (value_of (image_in blocks sound)) earlier)
    (stops : RightAfterStops (ShowsValues sound.head.geometry most) opening (earlier ++ entry) logical (value_of (image_in blocks sound)) report session) where
  pub run_is_right : StopsRight (ShowsValues sound.head.geometry most) opening entry (session ++ (earlier ++ entry)) logical (value_of (image_in blocks sound))
      (report_from (successes (earlier ++ entry)) report)
  run_is_right = stops_right (ShowsValues sound.head.geometry most) opening entry earlier session logical (value_of (image_in blocks sound)) report within early stops

  pub run_leaves : most + left ≤ 2 ^ 54 → sound.head.geometry.nonce < 2 ^ 64 → (later prefix : List Call) → session ++ (earlier ++ entry) ≡ later ++ (prefix ++ entry)
      → (image : Blocks) → IsImage opening (prefix ++ entry) image → HasOneImage image [] image × CanBegin left image
  run_leaves late named = next_run opening entry (session ++ (earlier ++ entry)) logical (value_of (image_in blocks sound)) sound.head.geometry most left
      (report_from (successes (earlier ++ entry)) report) run_is_right late named

-- Of a run that may begin with so many sequences more, each image leaves those to the next one.
pub run_after_run : (opening blocks : Blocks) (entry now : List Call) (left logical : ℕ) (values : ℕ → List ℕ) (report : RunReport) (can : CanBegin (2 ^ 18 + left) blocks)
    → StopsRight (ShowsValues can.sound.head.geometry (next_start blocks can.sound + 2 ^ 18)) opening entry now logical values report
    → (later prefix : List Call) → now ≡ later ++ (prefix ++ entry) → (image : Blocks) → IsImage opening (prefix ++ entry) image → HasOneImage image [] image × CanBegin left image
run_after_run opening blocks entry now left logical values report can right =
    next_run opening entry now logical values can.sound.head.geometry (next_start blocks can.sound + 2 ^ 18) left report right (let late = can.late in omega (arith, late)) can.named
