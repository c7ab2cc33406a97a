-- Where nothing failed, each request is served, or memory ran out before.
use Rattle.std.proofs.Common.{ℕ, ◌≡◌, ◌+◌, ◌<◌, ◌≤◌, ◌++◌, false, IsTrue, List, [], ◌∷◌, slice_get, Option, Some, None, IsSome, Ok, Err, refl, sym, ◌∙◌, ap, subst, append_assoc, inl, inr, arith}
use Rattle.std.proofs.lemmas.Bool.{cases_Bool, cases_lt}
use Rattle.std.proofs.lemmas.Bool.Decides.{eqb_tells}
use Rattle.blk_base.specs.declared.geometry.Geometry.{Geometry}
use Rattle.blk_base.specs.declared.geometry.Super.{Super}
use Rattle.blk_base.specs.declared.opened.Opened.{Opened}
use Rattle.blk_base.specs.declared.request.Answer.{Answer as Reply}
use Rattle.blk_base.specs.declared.request.Answer.TheVariants as reply
use Rattle.blk_base.specs.declared.request.Request.{Request}
use Rattle.blk_base.specs.declared.request.Writer.{Writer}
use Rattle.core_laws.proofs.lists.CoreLists.{answer_later}
use Rattle.disk_model.specs.Causes.{Rose}
use Rattle.command_text.specs.Workloads.{summary_text}
use Rattle.disk_model.specs.Log.{Blocks}
use Rattle.disk_model.specs.Seen.{Seen}
use Rattle.image_model.proofs.FaultLaws.{no_fault}
use Rattle.image_model.specs.Faults.{IsImageFault}
use Rattle.image_model.specs.Sound.{IsSound}
use Rattle.image_model.specs.declared.fault.ImageFault.{ImageFault}
use Rattle.image_model.specs.declared.fault.ImageFault.TheVariants as image
use Rattle.rebuild.specs.Openings.{IsOpeningRefusal}
use Rattle.rebuild.specs.Recoveries.{IsRecovery, IsTold}
use Rattle.rebuild.specs.declared.forms.Recovered.{Recovered}
use Rattle.stream_text.specs.WholeScript.{whole_script}
use Rattle.vdo_model.proofs.NameLaws.{same_self}
use Rattle.vdo_model.specs.DeskLog.{IsDeskLog, answer_of, begun}
use Rattle.vdo_model.specs.Scripts.{Script, request_at, stream_of}
use Rattle.vdo_model.specs.declared.report.DeskLine.{DeskLine}
use Rattle.vdo_model.specs.declared.report.DeskLine.TheVariants.{Begin, Answer}
use Rattle.vdo_model.specs.declared.report.RunReport.{RunReport}
use Rattle.vdo_cli.specs.declared.words.Course.{Course}
use Rattle.vdo_cli.specs.declared.fault.Fault.{Fault}
use Rattle.vdo_cli.specs.declared.fault.Fault.TheVariants as fault
use Rattle.vdo_cli.specs.declared.words.Change.TheVariants as change
use Rattle.vdo_cli.specs.declared.words.Served.{Served}
use Rattle.vdo_cli.specs.declared.words.Served.TheVariants as served
use Rattle.vdo_cli.specs.Commands.{course_of, served_of}
use Rattle.vdo_cli.specs.Complete.{IsAllServed, IsComplete, NeedsNoFault, NoneRose}
use Rattle.vdo_cli.specs.Closings.{Closes, PutsWith}
use Rattle.vdo_cli.specs.Endings.{FailsUnready, PlayFails, ScriptFails, ServesRequests}
use Rattle.vdo_cli.specs.Flushes.{Settles}
use Rattle.vdo_cli.specs.Inspections.{told_as}
use Rattle.vdo_cli.specs.Openings.{IsNotOpened, IsReady, IsUnready, recovered_of}
use Rattle.vdo_cli.specs.Outsides.{Outcome, Outside, RefusesAfter, Setting, input_setting_of, inputs_of}
use Rattle.vdo_cli.specs.Runs.{EndsAs, EndsFlushed, EndsSo, PlayedOut, RunsScript, RunsScriptBy}
use Rattle.vdo_cli.specs.Sessions.{IsReported}
use Rattle.vdo_cli.specs.Texts.{fault_status, is_lost, served_status, session_text, some_full, some_lost, struck_status}
use Rattle.vdo_cli.specs.Workloads.{EndsWorkload, EndsWorkloadBy, WorkloadFails, WorkloadServed, requests_for, summary_of}
use Rattle.vdo_words.specs.declared.commands.WorkloadOptions.{WorkloadOptions}
use Rattle.vdo_cli.proofs.FlushLaws.{told_behind}
use Rattle.vdo_cli.proofs.OpenedSessions.{head_of_sound}
use Rattle.vdo_cli.proofs.RecoveredImages.{IsLeft, left_by}

-- Counts.

rose_from : (first middle last : ℕ) → first ≤ middle → Rose middle last → Rose first last
rose_from first middle last later rose = omega (arith, later, rose)

rose_to : (first middle last : ℕ) → middle ≤ last → Rose first middle → Rose first last
rose_to first middle last later rose = omega (arith, later, rose)

-- Desk logs.

-- what is begun is asked
begun_asked : (depth : ℕ) (script : Script) (desk : List DeskLine) (w : Writer) → IsDeskLog depth script desk → w.number < begun w.stream desk → IsSome (request_at script w)
begun_asked depth script [] w log below = absurd (omega (arith, below))
begun_asked depth script (Answer v a ∷ older) w log below = begun_asked depth script older w log.1 below
begun_asked depth script (Begin v ∷ older) w log below = elim (eqb_tells v.stream w.stream) [
  | inl same ↦ elim (cases_lt w.number (begun w.stream older)) [
    | inl less ↦ begun_asked depth script older w log.1 less
    | inr more ↦
        let here : w.number < begun w.stream older + 1 = rw same.0 at below in
        let number_is : v.number ≡ begun v.stream older = log.0.0 in
        let streams : begun v.stream older ≡ begun w.stream older = ap (λ (i : ℕ). begun i older) same.1 in
        let numbers : v.number ≡ w.number = omega (arith, more, here, number_is, streams) in
        subst (λ (n : ℕ). IsSome (slice_get (stream_of script w.stream) n)) numbers (subst (λ (i : ℕ). IsSome (slice_get (stream_of script i) v.number)) same.1 log.0.1)
  ]
  | inr other ↦ begun_asked depth script older w log.1 (rw other.0 at below)
]

some_is : (o : Option Request) → IsSome o → (r : Request) × (o ≡ Some r)
some_is None some = absurd (cc some)
some_is (Some r) some = (r, refl)

-- each request that has an answer has one that needs no fault
abbrev NoneFailed : Script → List DeskLine → Type 0
NoneFailed script desk = (w : Writer) (r : Request) (a : Reply) → request_at script w ≡ Some r → answer_of desk w ≡ Some a → NeedsNoFault a

not_lost : (a : Reply) → NeedsNoFault a → is_lost a ≡ false
not_lost reply.Ok fine = refl
not_lost (reply.Bytes bytes) fine = refl
not_lost reply.Range fine = refl
not_lost reply.Full fine = refl
not_lost reply.NoSpace fine = refl
not_lost reply.ReadFault fine = absurd fine
not_lost reply.Stopped fine = absurd fine
not_lost reply.Damaged fine = absurd fine

-- so no line of the desk log says that something failed
none_lost : (depth : ℕ) (script : Script) (newer older : List DeskLine) → IsDeskLog depth script (newer ++ older) → IsDeskLog depth script older → NoneFailed script (newer ++ older)
    → some_lost older ≡ false
none_lost depth script newer [] log own fine = refl
none_lost depth script newer (Begin w ∷ older) log own fine =
    let parts : newer ++ (Begin w ∷ older) ≡ (newer ++ (Begin w ∷ [])) ++ older = sym (append_assoc newer (Begin w ∷ []) older) in
    none_lost depth script (newer ++ (Begin w ∷ [])) older (subst (IsDeskLog depth script) parts log) own.1 (subst (NoneFailed script) parts fine)
none_lost depth script newer (Answer w a ∷ older) log own fine =
    let parts : newer ++ (Answer w a ∷ older) ≡ (newer ++ (Answer w a ∷ [])) ++ older = sym (append_assoc newer (Answer w a ∷ []) older) in
    let rest = none_lost depth script (newer ++ (Answer w a ∷ [])) older (subst (IsDeskLog depth script) parts log) own.1 (subst (NoneFailed script) parts fine) in
    let asked = some_is (request_at script w) (begun_asked depth script older w own.1 own.0.0) in
    let has : answer_of (Answer w a ∷ older) w ≡ Some a = rw (same_self w) refl in
    let answers = answer_later depth script newer (Answer w a ∷ older) w a log has in
    rw (not_lost a (fine w asked.0 a asked.1 answers)) rest

-- An image without a fault.

never : (blocks : Blocks) (sound : IsSound blocks) (why : ImageFault) → IsImageFault blocks why → (why ≡ image.Device → ⊥) → (why ≡ image.Unclean → ⊥) → (why ≡ image.Memory → ⊥) → ⊥
never blocks sound why is device unclean memory = elim (no_fault blocks sound why is) [ inl same ↦ device same | inr (inl same) ↦ unclean same | inr (inr same) ↦ memory same ]

struck_by_none : (report : RunReport) → report.damage ≡ None → some_lost report.desk ≡ false → struck_status report ≡ None
struck_by_none report undamaged fine = rw (undamaged, fine) refl

served_low : (desk : List DeskLine) → served_status desk ≤ 1
served_low desk = elim (cases_Bool (some_full desk)) [ inl full ↦ rw full (omega arith) | inr room ↦ rw room (omega arith) ]

-- The run.

module _ (s : Setting) (before after : Outside) (outcome : Outcome) (blocks : Blocks) (sound : IsSound blocks)
    (told : IsTold s.device before.device blocks) (none : NoneRose before after) where
  -- it wasn't recovered: only memory can have run out
  not_recovered : (why : ImageFault) → IsRecovery s.device before.device after.device (Err why) → why ≡ image.Memory
  not_recovered (image.Super fault) is = absurd (never blocks sound (image.Super fault) (is.says blocks told) (λ same. absurd (cc same)) (λ same. absurd (cc same)) (λ same. absurd (cc same)))
  not_recovered (image.Window n) is = absurd (never blocks sound (image.Window n) (is.says blocks told).1 (λ same. absurd (cc same)) (λ same. absurd (cc same)) (λ same. absurd (cc same)))
  not_recovered (image.Page at fault) is = absurd (never blocks sound (image.Page at fault) (is.says blocks told).1 (λ same. absurd (cc same)) (λ same. absurd (cc same)) (λ same. absurd (cc same)))
  not_recovered (image.Counter at point) is = absurd (never blocks sound (image.Counter at point) (is.says blocks told).1 (λ same. absurd (cc same)) (λ same. absurd (cc same)) (λ same. absurd (cc same)))
  not_recovered (image.SharedPage at) is = absurd (never blocks sound (image.SharedPage at) (is.says blocks told).1 (λ same. absurd (cc same)) (λ same. absurd (cc same)) (λ same. absurd (cc same)))
  not_recovered (image.Counts at stored mapped) is = absurd (is.says blocks told)
  not_recovered image.Device is = absurd (none.device (is.says blocks told).rose)
  not_recovered image.Unclean is = absurd (is.says blocks told)
  not_recovered image.Memory is = refl

  -- nor was it opened
  module _ (recovered : Option ℕ) (why : ImageFault) (is : IsNotOpened s.device before.device after.device recovered why) where
    left : IsLeft blocks sound s.device is.middle
    left = left_by s.device before.device is.middle blocks sound is.found told is.recovery

    abbrev Refused : ImageFault → Type 0
    Refused fault = IsOpeningRefusal left.left is.middle after.device fault

    not_opened_so : (fault : ImageFault) → Refused fault → fault ≡ image.Memory
    not_opened_so (image.Super fault) refused = absurd (never left.left left.is_sound (image.Super fault) refused (λ same. absurd (cc same)) (λ same. absurd (cc same)) (λ same. absurd (cc same)))
    not_opened_so (image.Window n) refused = absurd (never left.left left.is_sound (image.Window n) refused.1 (λ same. absurd (cc same)) (λ same. absurd (cc same)) (λ same. absurd (cc same)))
    not_opened_so (image.Page at fault) refused = absurd (never left.left left.is_sound (image.Page at fault) refused.1 (λ same. absurd (cc same)) (λ same. absurd (cc same)) (λ same. absurd (cc same)))
    not_opened_so (image.Counter at point) refused = absurd (never left.left left.is_sound (image.Counter at point) refused.1 (λ same. absurd (cc same)) (λ same. absurd (cc same)) (λ same. absurd (cc same)))
    not_opened_so (image.SharedPage at) refused = absurd (never left.left left.is_sound (image.SharedPage at) refused.1 (λ same. absurd (cc same)) (λ same. absurd (cc same)) (λ same. absurd (cc same)))
    not_opened_so (image.Counts at stored mapped) refused = absurd (never left.left left.is_sound (image.Counts at stored mapped) refused.1 (λ same. absurd (cc same)) (λ same. absurd (cc same)) (λ same. absurd (cc same)))
    not_opened_so image.Device refused = absurd (none.device (rose_from before.device.faults is.middle.faults after.device.faults is.recovery.later.faults refused.rose))
    not_opened_so image.Unclean refused =
        let both : Ok left.is_sound.head ≡ Ok refused.0 = sym left.is_sound.opens.accepted ∙ refused.1 in
        let same : left.is_sound.head ≡ refused.0 = cc both in
        let clean = ap (λ (h : Super). h.clean) (sym same) ∙ left.clean in
        absurd (cc (clean, refused.2))
    not_opened_so image.Memory refused = refl

    not_opened : why ≡ image.Memory
    not_opened = not_opened_so why (is.opening.says left.left left.is_told)

  not_ready : (recovered : Option ℕ) (why : ImageFault) → IsUnready s.device before.device after.device recovered why → why ≡ image.Memory
  not_ready recovered why (inl is) = not_recovered why is.recovery
  not_ready recovered why (inr is) = not_opened recovered why is

  unready_of_memory : (recovered : Option ℕ) (why : Fault) → FailsUnready s.device before.device after.device recovered why → why ≡ fault.Memory
  unready_of_memory recovered why fails = fails.fault_is ∙ ap told_as (not_ready recovered fails.cause fails.unready)

  -- no session was begun
  out_of_memory : (script : Script) (recovered : Option ℕ) (why : Fault) → outcome.fault ≡ Some why → why ≡ fault.Memory
      → RefusesAfter s.sink_tells recovered why outcome.status outcome.report before.sink after.sink → IsComplete script outcome
  out_of_memory script recovered why is memory refuses = inr (is ∙ ap (λ (f : Fault). Some f) memory, refuses.status_is ∙ ap fault_status memory)

  -- one was served
  module _ (course : Course) (found : Recovered) (start : Opened) (script : Script) (text : List ℕ)
      (session : ServesRequests s.device course found start outcome.report before.device after.device) (requests_are : outcome.report.requests ≡ script)
      (closing : Closes s.sink_tells text outcome.report outcome.status outcome.fault before.sink after.sink) where
    abbrev report : RunReport
    report = outcome.report

    undamaged : report.damage ≡ None
    undamaged = session.undamaged blocks told sound

    no_damage : IsSome report.damage → ⊥
    no_damage some = absurd (cc (undamaged, some))

    own_later : before.device.faults ≤ session.opened.faults
    own_later = let first = session.ready.recovery.later.faults in let second = session.ready.opening.untouched.later.faults in omega (arith, first, second)

    no_rise : Rose session.opened.faults after.device.faults → ⊥
    no_rise rose = none.device (rose_from before.device.faults session.opened.faults after.device.faults own_later rose)

    reported : IsReported course.setup start report session.trace session.opened after.device
    reported = session.reported

    fine : NoneFailed report.requests report.desk
    fine w r reply.Ok asked is = tt
    fine w r (reply.Bytes bytes) asked is = tt
    fine w r reply.Range asked is = tt
    fine w r reply.Full asked is = tt
    fine w r reply.NoSpace asked is = tt
    fine w r reply.ReadFault asked is = absurd (no_rise (reported.faults w r reply.ReadFault asked is))
    fine w r reply.Stopped asked is = elim (reported.faults w r reply.Stopped asked is) [ inl rose ↦ absurd (no_rise rose) | inr some ↦ absurd (no_damage some) ]
    fine w r reply.Damaged asked is = absurd (no_damage (reported.faults w r reply.Damaged asked is))

    some_answer : (o : Option Reply) → IsSome o → (a : Reply) × (o ≡ Some a)
    some_answer None some = absurd (cc some)
    some_answer (Some a) some = (a, refl)

    none_struck : struck_status report ≡ None
    none_struck = struck_by_none report undamaged (none_lost course.setup.depth report.requests [] report.desk reported.run_right.desk_log reported.run_right.desk_log fine)

    served_all : outcome.fault ≡ None → IsAllServed script outcome
    served_all is = record {
      ended = is;
      status =
          let closes : Closes s.sink_tells text report outcome.status None before.sink after.sink =
          subst (λ (ended : Option Fault). Closes s.sink_tells text report outcome.status ended before.sink after.sink) is closing in
          let puts = subst (λ (struck : Option ℕ). PutsWith struck s.sink_tells text (served_status report.desk) outcome.status before.sink after.sink) none_struck closes in
          let low = served_low report.desk in
          let status_is = puts.0 in
          omega (arith, low, status_is);
      requests = requests_are;
      each = λ w r asked.
          let asked_too : request_at report.requests w ≡ Some r = ap (λ (list : Script). request_at list w) requests_are ∙ asked in
          let answer = some_answer (answer_of report.desk w) (reported.run_right.all_answered w (rw asked_too refl)) in
          (answer.0, answer.1, fine w r answer.0 asked_too answer.1);
    }

    sink_rose : outcome.fault ≡ Some fault.Sink → ⊥
    sink_rose is =
        let closes : Closes s.sink_tells text report outcome.status (Some fault.Sink) before.sink after.sink =
        subst (λ (ended : Option Fault). Closes s.sink_tells text report outcome.status ended before.sink after.sink) is closing in
        none.sink closes.2

    complete_if_none : outcome.fault ≡ None → IsComplete script outcome
    complete_if_none is = inl (served_all is)

    complete_if_sink : outcome.fault ≡ Some fault.Sink → IsComplete script outcome
    complete_if_sink is = absurd (sink_rose is)

  -- Of a script.
  module _ (course : Course) (script : Script) (tells : IsTrue s.source_tells) (valid : whole_script before.source.left ≡ Ok script) where
    of_script : (why : Fault) → ScriptFails s.source_tells before.source after.source why → why ≡ fault.Memory
    of_script (fault.Script refusal) fails = let said = fails tells in absurd (cc (said, valid))
    of_script fault.Read fails = absurd (none.source fails)
    of_script fault.Memory fails = refl
    of_script fault.Usage fails = absurd fails
    of_script (fault.Layout why) fails = absurd fails
    of_script fault.Device fails = absurd fails
    of_script (fault.Image why) fails = absurd fails
    of_script (fault.Differs count) fails = absurd fails
    of_script (fault.Grow why) fails = absurd fails
    of_script fault.Sink fails = absurd fails

    of_memory : (recovered : Option ℕ) (why : Fault) → PlayFails (input_setting_of s) (inputs_of before) (inputs_of after) recovered why → why ≡ fault.Memory
    of_memory recovered why (inl fails) = unready_of_memory recovered why fails.fails
    of_memory recovered why (inr fails) = of_script why fails.cause

    requests_so : (played : PlayedOut s course before after outcome) → outcome.report.requests ≡ script
    requests_so played = let said = played.session.script_is tells in cc (said, valid)

    complete_by : (ended : Option Fault) → outcome.fault ≡ ended → RunsScriptBy ended s course before after outcome → IsComplete script outcome
    complete_by None is played =
        complete_if_none course played.found played.session.start script (session_text (recovered_of played.found) outcome.report) played.session.serves (requests_so played) played.closes is
    complete_by (Some fault.Sink) is played =
        complete_if_sink course played.found played.session.start script (session_text (recovered_of played.found) outcome.report) played.session.serves (requests_so played) played.closes is
    complete_by (Some other) is begun = out_of_memory script begun.recovered other is (of_memory begun.recovered other begun.cause) begun.refuses

    pub script_complete : RunsScript s course before after outcome → IsComplete script outcome
    script_complete ends = complete_by outcome.fault refl ends

  -- Of a seed.
  module _ (options : WorkloadOptions) where
    abbrev wanted : Script
    wanted = requests_for options sound.head.geometry.logical

    -- the image that was opened is of the same sizes
    same_logical : (found : Recovered) (start : Opened) (now : Seen) → IsReady s.device before.device now found start → start.head.geometry.logical ≡ sound.head.geometry.logical
    same_logical found start now ready =
        let left = left_by s.device before.device ready.middle blocks sound found told ready.recovery in
        ap (λ (h : Super). h.geometry.logical) (sym (head_of_sound left.left left.is_sound start (ready.opening.says left.left left.is_told)))
        ∙ ap (λ (g : Geometry). g.logical) left.geometry

    seeded_so : (worked : WorkloadServed s options before after outcome) → outcome.report.requests ≡ wanted
    seeded_so worked =
        let serves = worked.session.serves in
        worked.session.requests_are ∙ ap (requests_for options) (same_logical worked.found worked.session.start serves.opened serves.ready)

    seeded_of_memory : (recovered : Option ℕ) (why : Fault) → WorkloadFails s.device before.device after.device recovered why → why ≡ fault.Memory
    seeded_of_memory recovered why (inl fails) = unready_of_memory recovered why fails
    seeded_of_memory recovered why (inr lacks) = lacks.fault_is

    seeded_by : (ended : Option Fault) → outcome.fault ≡ ended → EndsWorkloadBy ended s options before after outcome → IsComplete wanted outcome
    seeded_by None is worked =
        complete_if_none (course_of options.schedule options.core) worked.found worked.session.start wanted (summary_text (summary_of (recovered_of worked.found) options outcome.report))
        worked.session.serves (seeded_so worked) worked.closes is
    seeded_by (Some fault.Sink) is worked =
        complete_if_sink (course_of options.schedule options.core) worked.found worked.session.start wanted (summary_text (summary_of (recovered_of worked.found) options outcome.report))
        worked.session.serves (seeded_so worked) worked.closes is
    seeded_by (Some other) is begun = out_of_memory wanted begun.recovered other is (seeded_of_memory begun.recovered other begun.cause) begun.refuses

    pub seeded_complete : EndsWorkload s options before after outcome → IsComplete wanted outcome
    seeded_complete ends = seeded_by outcome.fault refl ends.ends

-- Behind the flush, of which it is told.

still_none : (before after : Outside) (flushed : Seen) → before.device.faults ≤ flushed.faults → NoneRose before after → NoneRose (record before { device = flushed }) after
still_none before after flushed later none = record {
  device = λ rose. none.device (rose_from before.device.faults flushed.faults after.device.faults later rose);
  source = none.source;
  sink = none.sink;
}

pub run_complete : (s : Setting) (words : List (List ℕ)) (course : Course) (script : Script) (before after : Outside) (outcome : Outcome) (blocks : Blocks) → IsSound blocks
    → Settles s.device before.device blocks → IsTrue s.source_tells → served_of words ≡ Some (served.Change (change.Script course)) → whole_script before.source.left ≡ Ok script
    → NoneRose before after → EndsSo s words before after outcome → IsComplete script outcome
run_complete s words course script before after outcome blocks sound settles tells asked valid none ends =
    by_flush (subst (λ (what : Option Served). EndsAs s what before after outcome) asked ends)
  where
    by_flush : EndsFlushed s (change.Script course) before after outcome → IsComplete script outcome
    by_flush (inl (flushed, is, does)) =
        script_complete s (record before { device = flushed }) after outcome blocks sound (told_behind s.device before.device flushed blocks is settles)
        (still_none before after flushed is.later.faults none) course script tells valid does
    by_flush (inr fails) = absurd (none.device fails.device.rose)

pub workload_complete : (s : Setting) (words : List (List ℕ)) (options : WorkloadOptions) (before after : Outside) (outcome : Outcome) (blocks : Blocks) (sound : IsSound blocks)
    → Settles s.device before.device blocks → served_of words ≡ Some (served.Change (change.Workload options))
    → NoneRose before after → EndsSo s words before after outcome → IsComplete (requests_for options sound.head.geometry.logical) outcome
workload_complete s words options before after outcome blocks sound settles asked none ends =
    by_flush (subst (λ (what : Option Served). EndsAs s what before after outcome) asked ends)
  where
    by_flush : EndsFlushed s (change.Workload options) before after outcome → IsComplete (requests_for options sound.head.geometry.logical) outcome
    by_flush (inl (flushed, is, does)) =
        seeded_complete s (record before { device = flushed }) after outcome blocks sound (told_behind s.device before.device flushed blocks is settles)
        (still_none before after flushed is.later.faults none) options does
    by_flush (inr fails) = absurd (none.device fails.device.rose)
