-- Where nothing failed, a crash tells what it shows, or memory ran out.
use Rattle.std.proofs.Common.{ℕ, ◌≡◌, ◌⊎◌, ◌≤◌, true, IsTrue, List, length, Option, Some, None, Ok, Err, refl, sym, ◌∙◌, ap, subst, inl, inr, arith}
use Rattle.crash_images.proofs.AuditedValues.{values_refused}
use Rattle.crash_images.proofs.SoundAudits.{audit_refused}
use Rattle.crash_images.specs.Shows.{IsPickRefused, PickFails, ShowsNothing}
use Rattle.disk_model.specs.Log.{Blocks}
use Rattle.disk_model.specs.Memory.{Memory, fresh, seen_of}
use Rattle.disk_model.specs.Seen.{Seen, Stays}
use Rattle.disk_model.specs.Trust.{trust_of}
use Rattle.image_model.proofs.FaultLaws.{no_fault}
use Rattle.image_model.specs.Faults.{IsImageFault}
use Rattle.image_model.specs.Sound.{IsSound}
use Rattle.image_model.specs.declared.fault.ImageFault.{ImageFault}
use Rattle.image_model.specs.declared.fault.ImageFault.TheVariants as image
use Rattle.rebuild.specs.Recoveries.{IsRecovery, IsTold}
use Rattle.stream_text.specs.WholeScript.{whole_script}
use Rattle.vdo_model.specs.Scripts.{Script}
use Rattle.vdo_words.specs.declared.commands.CrashOptions.{CrashOptions}
use Rattle.vdo_cli.specs.declared.fault.Fault.{Fault}
use Rattle.vdo_cli.specs.declared.fault.Fault.TheVariants as fault
use Rattle.vdo_cli.specs.declared.words.Served.{Served}
use Rattle.vdo_cli.specs.declared.words.Served.TheVariants as served
use Rattle.vdo_cli.specs.Commands.{served_of}
use Rattle.vdo_cli.specs.Complete.{NoneRose}
use Rattle.crash_images.specs.Cuts.{stop_of}
use Rattle.vdo_cli.specs.Crashes.{CopyFails, CrashFails, EndsCrashBy, IsCrashComplete, IsCrashRefused, IsCrashTold, IsNotRun, RunsOnCopy, TellsAudit, shown_text}
use Rattle.vdo_cli.specs.Endings.{ScriptFails}
use Rattle.vdo_cli.specs.Inspections.{told_as}
use Rattle.vdo_cli.specs.Openings.{HasSequencesLeft}
use Rattle.vdo_cli.specs.Outsides.{Outcome, Outside, Setting, input_setting_of, inputs_of}
use Rattle.vdo_cli.specs.Runs.{EndsAs, EndsSo}
use Rattle.vdo_cli.specs.Texts.{fault_status}
use Rattle.vdo_cli.proofs.CrashLaws.{left, picked_sound, picked_told, shows_sound}

-- A sound image is refused for no fault of its own.

abbrev OfNoImage : ImageFault → Type 0
OfNoImage why = (why ≡ image.Device) ⊎ (why ≡ image.Memory)

of_image : (blocks : Blocks) (sound : IsSound blocks) (why : ImageFault) → (why ≡ image.Unclean → ⊥) → IsImageFault blocks why → OfNoImage why
of_image blocks sound why other fault = elim (no_fault blocks sound why fault) [ inl same ↦ inl same | inr (inl same) ↦ absurd (other same) | inr (inr same) ↦ inr same ]

module _ (picked : Blocks) (own : IsSound picked) (told : IsTold (trust_of true true) (seen_of (fresh picked)) picked) where
  abbrev made : Seen
  made = seen_of (fresh picked)

  not_recovered : (now : Seen) (why : ImageFault) → IsRecovery (trust_of true true) made now (Err why) → OfNoImage why
  not_recovered now (image.Super fault) is = of_image picked own (image.Super fault) (λ same. absurd (cc same)) (is.says picked told)
  not_recovered now (image.Window n) is = of_image picked own (image.Window n) (λ same. absurd (cc same)) (is.says picked told).1
  not_recovered now (image.Page at fault) is = of_image picked own (image.Page at fault) (λ same. absurd (cc same)) (is.says picked told).1
  not_recovered now (image.Counter at point) is = of_image picked own (image.Counter at point) (λ same. absurd (cc same)) (is.says picked told).1
  not_recovered now (image.SharedPage at) is = of_image picked own (image.SharedPage at) (λ same. absurd (cc same)) (is.says picked told).1
  not_recovered now (image.Counts at stored mapped) is = absurd (is.says picked told)
  not_recovered now image.Unclean is = absurd (is.says picked told)
  not_recovered now image.Device is = inl refl
  not_recovered now image.Memory is = inr refl

  same_size : (middle : Seen) → Stays made middle → length middle.opening ≡ middle.size
  same_size middle stays = ap (λ (blocks : Blocks). length blocks) stays.opening ∙ sym stays.size

  shows_nothing : (now : Seen) (why : ImageFault) → ShowsNothing (trust_of true true) made now why → OfNoImage why
  shows_nothing now why (inl recovery) = not_recovered now why recovery
  shows_nothing now why (inr (inl lacks)) =
      let after = left picked own told lacks.middle lacks.found lacks.recovery in
      audit_refused (trust_of true true) lacks.middle after.left after.is_told after.is_sound now why (same_size lacks.middle lacks.recovery.stays) lacks.cause
  shows_nothing now why (inr (inr lacks)) =
      let after = left picked own told lacks.middle lacks.found lacks.recovery in
      values_refused (trust_of true true) lacks.middle lacks.behind now after.left lacks.report why after.is_told (same_size lacks.middle lacks.recovery.stays) lacks.audited lacks.untouched lacks.cause

-- The whole.

module _ (s : Setting) (options : CrashOptions) (before after : Outside) (outcome : Outcome) (blocks : Blocks) (sound : IsSound blocks)
    (told : IsTold s.device before.device blocks) (late : HasSequencesLeft blocks sound) (none : NoneRose before after) where
  module _ (copy : Memory) (run : RunsOnCopy (input_setting_of s) options outcome.report (inputs_of before) (inputs_of after) copy) where
    refused_for : (why : ImageFault) → (why ≡ image.Device → ⊥) → IsPickRefused copy options.image why → why ≡ image.Memory
    refused_for why other refused =
        let own = picked_sound s options before after outcome copy blocks sound told late run refused.picked refused.is in
        elim (shows_nothing refused.picked own.0 (picked_told copy options.image refused.picked refused.is) refused.now why refused.cause) [
          | inl same ↦ absurd (other same)
          | inr same ↦ same
        ]

    of_memory_alone : (why : ImageFault) → PickFails copy options.image why → why ≡ image.Memory
    of_memory_alone image.Memory fails = refl
    of_memory_alone image.Device fails = absurd fails
    of_memory_alone (image.Super fault) fails = refused_for (image.Super fault) (λ same. absurd (cc same)) fails
    of_memory_alone (image.Window n) fails = refused_for (image.Window n) (λ same. absurd (cc same)) fails
    of_memory_alone (image.Page at fault) fails = refused_for (image.Page at fault) (λ same. absurd (cc same)) fails
    of_memory_alone (image.Counter at point) fails = refused_for (image.Counter at point) (λ same. absurd (cc same)) fails
    of_memory_alone (image.SharedPage at) fails = refused_for (image.SharedPage at) (λ same. absurd (cc same)) fails
    of_memory_alone (image.Counts at stored mapped) fails = refused_for (image.Counts at stored mapped) (λ same. absurd (cc same)) fails
    of_memory_alone image.Unclean fails = refused_for image.Unclean (λ same. absurd (cc same)) fails

  module _ (script : Script) (few : before.device.size ≤ 65536) (tells : IsTrue s.source_tells) (valid : whole_script before.source.left ≡ Ok script) where
    same_requests : (copy : Memory) → RunsOnCopy (input_setting_of s) options outcome.report (inputs_of before) (inputs_of after) copy → outcome.report.requests ≡ script
    same_requests copy run = let said = run.script_is tells in cc (said, valid)

    module _ (copy : Memory) (there : outcome.copy ≡ Some copy) (whole : IsCrashTold s options before after outcome copy) where
      abbrev text : List ℕ
      text = shown_text (stop_of options.after copy.log) whole.shown

      told_by : (ended : Option Fault) → outcome.fault ≡ ended → TellsAudit s.sink_tells text whole.shown.audit outcome.status ended before.sink after.sink → IsCrashComplete script outcome
      told_by None is (same, put) = inl (record { ended = is; status = put.0; requests = same_requests copy whole.run; copied = rw there refl })
      told_by (Some fault.Sink) is (same, put) = absurd (none.sink put.1)
      told_by (Some (fault.Differs count)) is (some, count_is, status, put) =
          let clean = (shows_sound s options before after outcome copy blocks sound told late whole.run whole.shown whole.shows).none in
          let no_block = ap (λ (list : List _). length list) clean in
          absurd (omega (arith, some, count_is, no_block))
      told_by (Some fault.Usage) is (same, tells_it) = absurd tells_it
      told_by (Some (fault.Script why)) is (same, tells_it) = absurd tells_it
      told_by (Some fault.Device) is (same, tells_it) = absurd tells_it
      told_by (Some (fault.Layout why)) is (same, tells_it) = absurd tells_it
      told_by (Some (fault.Image why)) is (same, tells_it) = absurd tells_it
      told_by (Some fault.Memory) is (same, tells_it) = absurd tells_it
      told_by (Some (fault.Grow why)) is (same, tells_it) = absurd tells_it
      told_by (Some fault.Read) is (same, tells_it) = absurd tells_it

    refused_whole : (copy : Memory) → IsCrashRefused s options before after outcome copy → IsCrashComplete script outcome
    refused_whole copy refused =
        let memory = of_memory_alone copy refused.run refused.why refused.cause in
        inr (refused.fault_is ∙ ap (λ (why : ImageFault). Some (told_as why)) memory, refused.status_is ∙ ap (λ (why : ImageFault). fault_status (told_as why)) memory)

    -- nothing was run: only memory can have run out
    no_copy : (why : Fault) → CopyFails s.device before.device after.device why → why ≡ fault.Memory
    no_copy (fault.Layout why) fails = let many = fails.1 in absurd (omega (arith, many, few))
    no_copy fault.Device fails = absurd (none.device fails.2.rose)
    no_copy fault.Memory fails = refl
    no_copy fault.Usage fails = absurd fails
    no_copy (fault.Script why) fails = absurd fails
    no_copy (fault.Image why) fails = absurd fails
    no_copy (fault.Differs count) fails = absurd fails
    no_copy (fault.Grow why) fails = absurd fails
    no_copy fault.Read fails = absurd fails
    no_copy fault.Sink fails = absurd fails

    no_script : (why : Fault) → ScriptFails s.source_tells before.source after.source why → why ≡ fault.Memory
    no_script (fault.Script refusal) fails = let said = fails tells in absurd (cc (said, valid))
    no_script fault.Read fails = absurd (none.source fails)
    no_script fault.Memory fails = refl
    no_script fault.Usage fails = absurd fails
    no_script (fault.Layout why) fails = absurd fails
    no_script fault.Device fails = absurd fails
    no_script (fault.Image why) fails = absurd fails
    no_script (fault.Differs count) fails = absurd fails
    no_script (fault.Grow why) fails = absurd fails
    no_script fault.Sink fails = absurd fails

    for_memory : (why : Fault) → CrashFails (input_setting_of s) (inputs_of before) (inputs_of after) why → why ≡ fault.Memory
    for_memory why (inl (fails, unread)) = no_copy why fails
    for_memory why (inr (small, fails)) = no_script why fails

    not_run : IsNotRun s before after outcome → IsCrashComplete script outcome
    not_run not =
        let memory = for_memory not.why not.cause in
        inr (not.fault_is ∙ ap (λ (why : Fault). Some why) memory, not.refuses.status_is ∙ ap fault_status memory)

    ended_by : (copy : Option Memory) → outcome.copy ≡ copy → EndsCrashBy copy s options before after outcome → IsCrashComplete script outcome
    ended_by (Some copy) there (inl whole) = told_by copy there whole outcome.fault refl whole.told
    ended_by (Some copy) there (inr refused) = refused_whole copy refused
    ended_by None there not = not_run not

pub crash_complete : (s : Setting) (words : List (List ℕ)) (options : CrashOptions) (script : Script) (before after : Outside) (outcome : Outcome) (blocks : Blocks) (sound : IsSound blocks)
    → IsTold s.device before.device blocks → HasSequencesLeft blocks sound → before.device.size ≤ 65536 → IsTrue s.source_tells
    → served_of words ≡ Some (served.Crash options) → whole_script before.source.left ≡ Ok script → NoneRose before after → EndsSo s words before after outcome → IsCrashComplete script outcome
crash_complete s words options script before after outcome blocks sound told late few tells asked valid none ends =
    ended_by s options before after outcome blocks sound told late none script few tells valid outcome.copy refl
    (subst (λ (what : Option Served). EndsAs s what before after outcome) asked ends).ends
