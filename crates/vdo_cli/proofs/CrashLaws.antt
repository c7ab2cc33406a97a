-- What a crash shows of an honest device with a sound image.
use Rattle.std.proofs.Common.{ℕ, ◌≡◌, ◌⊎◌, ◌++◌, true, false, List, [], ◌∷◌, length, map, Ok, refl, sym, ◌∙◌, ap, ap₂, subst, append_assoc, length-append, inl, inr, arith}
use Rattle.blk_base.specs.declared.geometry.Geometry.{Geometry}
use Rattle.blk_base.specs.declared.place.Lba.{Lba}
use Rattle.command_text.specs.declared.crashes.AddressValue.{AddressValue}
use Rattle.crash_images.proofs.AuditedValues.{sound_values}
use Rattle.crash_images.proofs.CutLaws.{counted_behind}
use Rattle.crash_images.proofs.SoundAudits.{no_difference}
use Rattle.crash_images.specs.Addresses.{AreAddresses}
use Rattle.crash_images.specs.Shows.{AreValues, IsPickOf, IsPickShown, IsShown}
use Rattle.crash_images.specs.Values.{address_of, value_in}
use Rattle.crash_images.specs.declared.shown.Shown.{Shown}
use Rattle.disk_model.proofs.LookedLaws.{one_in-all}
use Rattle.disk_model.proofs.OneImageLaws.{one_image-opening}
use Rattle.disk_model.proofs.PickImageLaws.{picked_may_stand}
use Rattle.disk_model.specs.declared.call.Call.{Call}
use Rattle.disk_model.specs.declared.call.Call.TheVariants.{Flush}
use Rattle.disk_model.specs.Images.{IsImage}
use Rattle.disk_model.specs.Log.{Blocks}
use Rattle.disk_model.specs.Memory.{Memory, fresh, seen_of}
use Rattle.disk_model.specs.Picks.{counted_log}
use Rattle.disk_model.specs.Seen.{Seen}
use Rattle.disk_model.specs.Trust.{trust_of}
use Rattle.image_model.specs.Looked.{looked_in}
use Rattle.image_model.specs.Sound.{IsSound}
use Rattle.rebuild.specs.Recoveries.{IsRecovery, IsTold}
use Rattle.rebuild.specs.declared.forms.Recovered.{Recovered}
use Rattle.recovery_laws.specs.Kept.{image_in}
use Rattle.vdo_model.specs.Scripts.{Script}
use Rattle.vdo_model.specs.declared.report.RunReport.{RunReport}
use Rattle.vdo_words.specs.declared.commands.CrashOptions.{CrashOptions}
use Rattle.vdo_cli.specs.Commands.{course_of}
use Rattle.vdo_cli.specs.declared.words.Course.{Course}
use Rattle.vdo_cli.specs.Crashes.{IsCrashTold, IsNotServed, IsServed, IsServedOrNot, RunsFlushed, RunsOnCopy, ShowsSound, of_memory}
use Rattle.core_stops.proofs.EarlyLaws.{reads_show}
use Rattle.core_stops.proofs.LogLaws.{parted, same_front}
use Rattle.core_stops.specs.Sequences.{next_start}
use Rattle.vdo_cli.specs.Flushes.{IsFlushed, IsNotFlushed}
use Rattle.vdo_cli.specs.Onward.{GoesOn}
use Rattle.vdo_cli.specs.Openings.{HasSequencesLeft}
use Rattle.vdo_cli.specs.Outsides.{Outcome, Outside, Setting, input_setting_of, inputs_of}
use Rattle.vdo_cli.proofs.FlushLaws.{image_behind_failed, told_behind, told_settles}
use Rattle.vdo_cli.proofs.OnwardLaws.{not_ready, serves_on}
use Rattle.vdo_cli.proofs.RecoveredImages.{IsLeft, left_by, still_told, unready_kept}

-- a device goes on over what was tried on it
tried_goes_on : (course : Course) (report : RunReport) (before after : Seen) → IsServedOrNot of_memory course report before after → GoesOn true before after
tried_goes_on course report before after (inl served) = serves_on of_memory course served.found served.start report before after served.serves
tried_goes_on course report before after (inr not) = not_ready of_memory before after not.recovered not.why not.unready

-- The image that was picked.

-- a stop of a run on a copy leaves sound images, of the sizes that there were
module _ (first copy : Memory) (blocks : Blocks) (sound : IsSound blocks) (told : IsTold (trust_of true true) (seen_of first) blocks) (late : HasSequencesLeft blocks sound) (empty : first.log ≡ []) where
  abbrev IsOne : Blocks → Type 0
  IsOne picked = (own : IsSound picked) × (own.head.geometry ≡ sound.head.geometry)

  -- before the flush
  as_copied : (picked : Blocks) → IsImage first.opening first.log picked → IsOne picked
  as_copied picked is =
      let shown = (reads_show first.opening blocks first.log sound (next_start blocks sound) sound.head.geometry.logical (omega arith) [] tt told.one [] [] refl picked is).1 in
      (shown.sound, shown.sizes)

  -- and behind it
  module _ (flushed : Seen) (is_flushed : IsFlushed true (seen_of first) flushed) where
    told_then : IsTold (trust_of true true) flushed blocks
    told_then = told_behind of_memory (seen_of first) flushed blocks is_flushed (told_settles of_memory (seen_of first) blocks told)

    log_then : flushed.log ≡ Flush true ∷ []
    log_then = is_flushed.logged refl ∙ ap (λ (log : List Call). Flush true ∷ log) empty

    module _ (newer front : List Call) (parts : copy.log ≡ newer ++ (front ++ flushed.log)) (picked : Blocks) (is : IsImage flushed.opening (front ++ flushed.log) picked) where
      left_served : (course : Course) (report : RunReport) → IsServed of_memory course report flushed (seen_of copy) → IsOne picked
      left_served course report served =
          let shown = (served.serves.stops blocks told_then sound late newer front parts picked is).1 in (shown.sound, shown.sizes)

      left_unserved : (report : RunReport) → IsNotServed of_memory report flushed (seen_of copy) → IsOne picked
      left_unserved report not =
          let kept = unready_kept of_memory flushed (seen_of copy) not.recovered not.why not.unready blocks told_then sound in
          let calls_are : kept.0 ≡ newer ++ front = same_front kept.0 (newer ++ front) flushed.log (sym kept.1 ∙ parts ∙ sym (append_assoc newer front flushed.log)) in
          let shown = (kept.2.0 newer front calls_are picked is).1 in (shown.sound, shown.sizes)

      left_of_run : (course : Course) (report : RunReport) → IsServedOrNot of_memory course report flushed (seen_of copy) → IsOne picked
      left_of_run course report (inl served) = left_served course report served
      left_of_run course report (inr not) = left_unserved report not

  module _ (newer older : List Call) (parts : copy.log ≡ newer ++ older) (picked : Blocks) (is : IsImage first.opening older picked) where
    before_all : older ≡ [] → IsOne picked
    before_all none = as_copied picked (subst (λ (log : List Call). IsImage first.opening log picked) (none ∙ sym empty) is)

    left_behind : (course : Course) (report : RunReport) (flushed : Seen) → IsFlushed true (seen_of first) flushed → GoesOn true flushed (seen_of copy)
        → IsServedOrNot of_memory course report flushed (seen_of copy) → IsOne picked
    left_behind course report flushed is_flushed on runs =
        let more = on.calls refl in
        let log_is = log_then flushed is_flushed in
        let all : newer ++ older ≡ more.0 ++ (Flush true ∷ []) = sym parts ∙ more.1 ∙ ap (λ (log : List Call). more.0 ++ log) log_is in
        elim (parted newer older more.0 (Flush true ∷ []) all) [
          | inl within ↦ with_flush within.0 within.2
          | inr back ↦ elim (one_at_most back.0 older back.2) [ inl none ↦ before_all none | inr one ↦ with_flush [] one ]
        ]
      where
        one_at_most : (back rest : List Call) → Flush true ∷ [] ≡ back ++ rest → (rest ≡ []) ⊎ (rest ≡ [] ++ (Flush true ∷ []))
        one_at_most [] rest same = inr (sym same)
        one_at_most (call ∷ back) [] same = inl refl
        one_at_most (call ∷ back) (next ∷ rest) same = absurd (let size = ap length same in let sizes = length-append back (next ∷ rest) in omega (arith, size, sizes))

        with_flush : (front : List Call) → older ≡ front ++ (Flush true ∷ []) → IsOne picked
        with_flush front older_is =
            let log_is = log_then flushed is_flushed in
            let here : older ≡ front ++ flushed.log = older_is ∙ ap (λ (log : List Call). front ++ log) (sym log_is) in
            left_of_run flushed is_flushed newer front (parts ∙ ap (λ (log : List Call). newer ++ log) here) picked
            (subst (λ (opening : Blocks). IsImage opening (front ++ flushed.log) picked) (sym is_flushed.stays.opening)
            (subst (λ (log : List Call). IsImage first.opening log picked) here is)) course report runs

    -- or it failed
    left_in_vain : IsNotFlushed true (seen_of first) (seen_of copy) → IsOne picked
    left_in_vain fails = elim (fails.logged refl) [
      | inl failed ↦ one_call newer older (sym parts ∙ failed ∙ ap (λ (log : List Call). Flush false ∷ log) empty) refl
      | inr unkept ↦ before_all (nothing newer older (sym parts ∙ unkept.0 ∙ empty))
    ]
      where
        nothing : (front rest : List Call) → front ++ rest ≡ [] → rest ≡ []
        nothing front [] same = refl
        nothing [] (call ∷ rest) same = absurd (cc same)
        nothing (other ∷ front) (call ∷ rest) same = absurd (cc same)

        one_call : (front rest : List Call) → front ++ rest ≡ Flush false ∷ [] → rest ≡ older → IsOne picked
        one_call front [] same own = before_all (sym own)
        one_call [] (call ∷ rest) same own =
            let here : IsImage first.opening (Flush false ∷ []) picked = subst (λ (log : List Call). IsImage first.opening log picked) (sym own ∙ same) is in
            as_copied picked (subst (λ (log : List Call). IsImage first.opening log picked) (sym empty) (image_behind_failed first.opening [] picked here))
        one_call (other ∷ front) (call ∷ rest) same own = absurd (let size = ap length same in let sizes = length-append front (call ∷ rest) in omega (arith, size, sizes))

    left_of_tried : (course : Course) (report : RunReport) → RunsFlushed of_memory course report (seen_of first) (seen_of copy) → IsOne picked
    left_of_tried course report (inl behind) =
        left_behind course report behind.0 behind.1 (tried_goes_on course report behind.0 (seen_of copy) behind.2) behind.2
    left_of_tried course report (inr fails) = left_in_vain fails.0

same_opening : (course : Course) (report : RunReport) (first copy : Memory) → RunsFlushed of_memory course report (seen_of first) (seen_of copy) → copy.opening ≡ first.opening
same_opening course report first copy (inl behind) = (tried_goes_on course report behind.0 (seen_of copy) behind.2).stays.opening ∙ behind.1.stays.opening
same_opening course report first copy (inr fails) = fails.0.stays.opening

-- What it shows.

-- two maps that give the same give the same lists
same_map : {X Y : Type 0} (f g : X → Y) → ((x : X) → f x ≡ g x) → (xs : List X) → map f xs ≡ map g xs
same_map f g same [] = refl
same_map f g same (x ∷ xs) = ap₂ (λ y ys. y ∷ ys) (same x) (same_map f g same xs)

module _ (picked : Blocks) (own : IsSound picked) (told : IsTold (trust_of true true) (seen_of (fresh picked)) picked) where
  abbrev made : Seen
  made = seen_of (fresh picked)

  pub left : (middle : Seen) (found : Recovered) → IsRecovery (trust_of true true) made middle (Ok found) → IsLeft picked own (trust_of true true) middle
  left middle found recovery = left_by (trust_of true true) made middle picked own found told recovery

  module _ (middle : Seen) (after : IsLeft picked own (trust_of true true) middle) where
    -- values that were read of the image are its values
    module _ (script : Script) (now : Seen) (there : IsTold (trust_of true true) now after.left) (values : List AddressValue) (are : AreValues (trust_of true true) script now values) where
      right : AreAddresses script after.is_sound.head.geometry.logical (map address_of values) × (values ≡ map (value_in (image_in after.left after.is_sound)) (map address_of values))
      right = sound_values (trust_of true true) script now after.left values there after.is_sound are

      same_value : (at : Lba) → value_in (image_in after.left after.is_sound) at ≡ value_in (image_in picked own) at
      same_value at = ap (λ (block : List ℕ). record { at = at; block = block }) (after.values at.0)

      pub values_named : AreAddresses script own.head.geometry.logical (map address_of values)
      values_named = subst (λ (g : Geometry). AreAddresses script g.logical (map address_of values)) after.geometry right.0

      pub values_right : values ≡ map (value_in (image_in picked own)) (map address_of values)
      values_right = right.1 ∙ same_map (value_in (image_in after.left after.is_sound)) (value_in (image_in picked own)) same_value (map address_of values)

  pub shown_right : (script : Script) (shown : Shown) → IsShown (trust_of true true) script made shown
      → (addresses : List Lba) × AreAddresses script own.head.geometry.logical addresses × (shown.values.items ≡ map (value_in (image_in picked own)) addresses) × (shown.audit.differs.items ≡ [])
  shown_right script shown is =
      let after = left is.middle shown.recovery is.recovery in
      let none = no_difference (trust_of true true) is.middle after.left after.is_told after.is_sound is.behind shown.audit is.audited in
      let there = still_told (trust_of true true) is.middle is.behind after.left after.is_told is.untouched in (
        map address_of shown.values.items,
        values_named is.middle after script is.behind there shown.values.items is.values,
        values_right is.middle after script is.behind there shown.values.items is.values,
        none,
      )

-- The whole.

-- a device that is made of a picked image has that one image
pub picked_told : (copy : Memory) (number : ℕ) (picked : Blocks) → IsPickOf copy number picked → IsTold (trust_of true true) (seen_of (fresh picked)) picked
picked_told copy number picked is = record {
  told = refl;
  fair = refl;
  one =
      one_in-all (looked_in picked) picked [] picked
      (one_image-opening picked (λ b below. is.whole b (let size = is.size in omega (arith, size, below))));
}

module _ (s : Setting) (options : CrashOptions) (before after : Outside) (outcome : Outcome) (copy : Memory) (blocks : Blocks) (sound : IsSound blocks)
    (told : IsTold s.device before.device blocks) (late : HasSequencesLeft blocks sound) (run : RunsOnCopy (input_setting_of s) options outcome.report (inputs_of before) (inputs_of after) copy) where
  abbrev first : Memory
  first = run.first

  no_calls : first.log ≡ []
  no_calls = ap (λ (memory : Memory). memory.log) run.copied.copied.1

  module _ (picked : Blocks) (is : IsPickOf copy options.image picked) where
    may_stand : IsImage copy.opening (counted_log copy.fuse copy.log) picked
    may_stand = picked_may_stand copy.opening (counted_log copy.fuse copy.log) options.image picked is

    pub picked_sound : (own : IsSound picked) × (own.head.geometry ≡ sound.head.geometry)
    picked_sound =
        let parts = counted_behind copy.fuse copy.log in
        left_of_tried first copy blocks sound (run.copied.keeps blocks told) late no_calls parts.0 (counted_log copy.fuse copy.log) parts.1 picked
        (subst (λ (opening : Blocks). IsImage opening (counted_log copy.fuse copy.log) picked) (same_opening (course_of options.schedule options.core) outcome.report first copy run.tried.runs) may_stand)
        (course_of options.schedule options.core) outcome.report run.tried.runs

  pub shows_sound : (shown : Shown) (shows : IsPickShown copy options.image outcome.report.requests shown) → ShowsSound sound.head.geometry outcome.report.requests copy shows.picked shown
  shows_sound shown shows =
      let parts = counted_behind copy.fuse copy.log in
      let own = picked_sound shows.picked shows.is in
      let right = shown_right shows.picked own.0 (picked_told copy options.image shows.picked shows.is) outcome.report.requests shown shows.shows in
      record {
        newer = parts.0;
        older = counted_log copy.fuse copy.log;
        parts = parts.1;
        may_stand = may_stand shows.picked shows.is;
        sound = own.0;
        sizes = own.1;
        addresses = right.0;
        named = subst (λ (g : Geometry). AreAddresses outcome.report.requests g.logical right.0) own.1 right.1;
        values = right.2;
        none = right.3;
      }

pub crash_shows_sound : (s : Setting) (options : CrashOptions) (before after : Outside) (outcome : Outcome) (copy : Memory) (blocks : Blocks) (sound : IsSound blocks)
    → IsTold s.device before.device blocks → HasSequencesLeft blocks sound → (told : IsCrashTold s options before after outcome copy)
    → ShowsSound sound.head.geometry outcome.report.requests copy told.shows.picked told.shown
crash_shows_sound s options before after outcome copy blocks sound is late told = shows_sound s options before after outcome copy blocks sound is late told.run told.shown told.shows
