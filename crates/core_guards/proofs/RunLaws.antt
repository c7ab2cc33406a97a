-- What a run's promise says of one command.
use Rattle.std.proofs.Common.{ℕ, ◌≡◌, ◌≢◌, ◌⊎◌, ◌++◌, true, false, IsTrue, List, [], ◌∷◌, None, Some, Ok, Err, Result, codes, inl, inr, refl, sym, ◌∙◌, ap, subst}
use Rattle.std.specs.Prelude.{Option}
use Rattle.audit.specs.Reports.{HasNoFault}
use Rattle.audit.specs.declared.forms.Report.{Report}
use Rattle.blk_base.specs.declared.geometry.Super.{Super}
use Rattle.blk_base.specs.declared.journal_entry.CommittedEntry.{CommittedEntry}
use Rattle.blk_base.specs.declared.opened.Opened.{Opened}
use Rattle.command_text.specs.Audits.{report_text}
use Rattle.command_text.specs.Parts.{recovery_text}
use Rattle.core_model.specs.Trace.{Trace}
use Rattle.crash_images.specs.Cuts.{stop_of}
use Rattle.crash_images.specs.Shows.{IsPickShown}
use Rattle.crash_images.specs.declared.shown.Shown.{Shown}
use Rattle.disk_model.specs.declared.call.Call.{Call}
use Rattle.disk_model.specs.declared.call.Call.TheVariants.{Flush}
use Rattle.disk_model.specs.Causes.{Rose}
use Rattle.disk_model.specs.Log.{Blocks}
use Rattle.disk_model.specs.Memory.{Memory, seen_of}
use Rattle.disk_model.specs.Seen.{Seen}
use Rattle.image_model.specs.Sound.{Opens, image_of}
use Rattle.image_model.specs.declared.fault.ImageFault.{ImageFault}
use Rattle.image_model.specs.declared.fault.ImageFault.TheVariants as image
use Rattle.rebuild.specs.Openings.{IsCleanImage}
use Rattle.rebuild.specs.Recoveries.{IsAnswer, IsRecovery, IsResult, IsTold, IsUnclean}
use Rattle.rebuild.specs.declared.forms.Recovered.{Recovered}
use Rattle.rebuild.specs.declared.forms.Recovered.TheVariants.{Clean, Entries}
use Rattle.vdo_cli.specs.Closings.{Closes}
use Rattle.vdo_cli.specs.Commands.{course_of, served_in, setup_of}
use Rattle.vdo_cli.specs.Complete.{IsComplete}
use Rattle.vdo_cli.specs.Crashes.{EndsCrash, EndsCrashBy, RunsFlushed, TellsAudit, of_memory, shown_text}
use Rattle.vdo_cli.specs.Endings.{PlayFails}
use Rattle.vdo_cli.specs.Flushes.{BehindFlush, IsFlushed, Settles}
use Rattle.vdo_cli.specs.Inspections.{EndsAudit, TellsReport, told_as}
use Rattle.vdo_cli.specs.Openings.{IsUnready, recovered_of}
use Rattle.vdo_cli.specs.Outsides.{Outcome, Outside, Setting, Tells, inputs_of, input_setting_of}
use Rattle.vdo_cli.specs.Growths.{EndsGrowth}
use Rattle.vdo_cli.specs.Rebuilds.{EndsRebuild}
use Rattle.vdo_cli.specs.Recoveries.{EndsRecovery}
use Rattle.vdo_cli.specs.Results.{TellsResult}
use Rattle.vdo_cli.specs.Runs.{EndsAs, EndsSo, FlushFails, NotBegun, PlayedOut, RunsScript, RunsScriptBy}
use Rattle.vdo_cli.specs.Sessions.{IsDriven, task}
use Rattle.vdo_cli.specs.Texts.{session_text}
use Rattle.vdo_cli.specs.Workloads.{EndsWorkload, EndsWorkloadBy, WorkloadServed, requests_for}
use Rattle.vdo_cli.specs.declared.fault.Fault.{Fault}
use Rattle.vdo_cli.specs.declared.fault.Fault.TheVariants as fault
use Rattle.vdo_cli.proofs.FlushLaws.{told_behind}
use Rattle.vdo_cli.proofs.OnwardLaws.{serves_on}
use Rattle.vdo_words.specs.Commands.{command_of}
use Rattle.vdo_words.specs.declared.commands.Command.{Command}
use Rattle.vdo_model.specs.DeskLog.{IsDeskLog}
use Rattle.vdo_model.specs.Places.{ArePlaces}
use Rattle.vdo_model.specs.Scripts.{Script}
use Rattle.vdo_words.specs.declared.commands.CoreOptions.{CoreOptions}
use Rattle.vdo_words.specs.declared.commands.CrashOptions.{CrashOptions}
use Rattle.vdo_words.specs.declared.commands.GrowOptions.{GrowOptions}
use Rattle.vdo_words.specs.declared.commands.WorkloadOptions.{WorkloadOptions}

-- the command is known
pub ends_as : (s : Setting) (words : List (List ℕ)) (asked : Option Command) (before after : Outside) (outcome : Outcome) → EndsSo s words before after outcome
    → command_of words ≡ asked → EndsAs s (served_in asked) before after outcome
ends_as s words asked before after outcome ends is = subst (λ (a : Option Command). EndsAs s (served_in a) before after outcome) is ends

-- What changes an image.

-- the device was flushed, and from then on it ends so; or the flush failed
abbrev pub EndsFlushed : Setting → (Outside → Outside → Outcome → Type 0) → Outside → Outside → Outcome → Type 0
EndsFlushed s Ends before after outcome =
    BehindFlush s.device.tells before.device (λ (flushed : Seen). Ends (record before { device = flushed }) after outcome) ⊎ FlushFails s before after outcome

-- behind the flush, where that isn't said to have failed
behind : (s : Setting) (Ends : Outside → Outside → Outcome → Type 0) (before after : Outside) (outcome : Outcome) → EndsFlushed s Ends before after outcome
    → (outcome.fault ≡ Some fault.Device → ⊥)
    → (flushed : Seen) × IsFlushed s.device.tells before.device flushed × Ends (record before { device = flushed }) after outcome
behind s Ends before after outcome (inl does) never = does
behind s Ends before after outcome (inr fails) never = absurd (never fails.fault_is)

no_fault : (f : Option Fault) → f ≡ None → f ≡ Some fault.Device → ⊥
no_fault f none is = let both : None ≡ Some fault.Device = sym none ∙ is in cc

-- the flush is the first call
abbrev pub FlushesFirst : Setting → Outside → Outside → Type 0
FlushesFirst s before after = (calls : List Call) × (after.device.log ≡ calls ++ (Flush true ∷ before.device.log))

flushed_first : (s : Setting) (Ends : Outside → Outside → Outcome → Type 0) (before after : Outside) (outcome : Outcome)
    → ((first : Outside) → Ends first after outcome → (calls : List Call) × (after.device.log ≡ calls ++ first.device.log))
    → EndsFlushed s Ends before after outcome → outcome.fault ≡ None → IsTrue s.device.tells → FlushesFirst s before after
flushed_first s Ends before after outcome on ends none tells =
    let does = behind s Ends before after outcome ends (no_fault outcome.fault none) in
    let later = on (record before { device = does.0 }) does.2 in
    (later.0, later.1 ∙ ap (λ (log : List Call). later.0 ++ log) (does.1.logged tells))

-- A script.
script_sink_rose : (s : Setting) (schedule : ℕ) (core : CoreOptions) (before after : Outside) (outcome : Outcome) → RunsScript s (course_of schedule core) before after outcome
    → outcome.fault ≡ Some fault.Sink → Rose before.sink.faults after.sink.faults
script_sink_rose s schedule core before after outcome ends is =
    let played : PlayedOut s (course_of schedule core) before after outcome = subst (λ (f : Option Fault). RunsScriptBy f s (course_of schedule core) before after outcome) is ends in
    (subst (λ (f : Option Fault). Closes s.sink_tells (session_text (recovered_of played.found) outcome.report) outcome.report outcome.status f before.sink after.sink) is played.closes).2

pub sink_rose : (s : Setting) (schedule : ℕ) (core : CoreOptions) (before after : Outside) (outcome : Outcome) → EndsFlushed s (RunsScript s (course_of schedule core)) before after outcome
    → outcome.fault ≡ Some fault.Sink → Rose before.sink.faults after.sink.faults
sink_rose s schedule core before after outcome ends is =
    let does = behind s (RunsScript s (course_of schedule core)) before after outcome ends (λ other. let both : Some fault.Sink ≡ Some fault.Device = sym is ∙ other in cc) in
    script_sink_rose s schedule core (record before { device = does.0 }) after outcome does.2 is

played_out : (s : Setting) (schedule : ℕ) (core : CoreOptions) (before after : Outside) (outcome : Outcome) → RunsScript s (course_of schedule core) before after outcome
    → outcome.fault ≡ None → PlayedOut s (course_of schedule core) before after outcome
played_out s schedule core before after outcome ends is = subst (λ (f : Option Fault). RunsScriptBy f s (course_of schedule core) before after outcome) is ends

pub driven_by : (s : Setting) (schedule : ℕ) (core : CoreOptions) (before after : Outside) (outcome : Outcome) → EndsFlushed s (RunsScript s (course_of schedule core)) before after outcome → outcome.fault ≡ None
    → (start : Opened) × (opened : Seen) × (trace : Trace) × IsDriven s.device schedule (task (setup_of core) start outcome.report.requests) trace opened after.device
driven_by s schedule core before after outcome ends none =
    let does = behind s (RunsScript s (course_of schedule core)) before after outcome ends (no_fault outcome.fault none) in
    let played = played_out s schedule core (record before { device = does.0 }) after outcome does.2 none in
    (played.session.start, played.session.serves.opened, played.session.serves.trace, played.session.serves.driven)

pub none_or_memory : (asked : Script) (outcome : Outcome) → IsComplete asked outcome → (outcome.fault ≡ None) ⊎ (outcome.fault ≡ Some fault.Memory)
none_or_memory asked outcome (inl all) = inl all.ended
none_or_memory asked outcome (inr memory) = inr memory.0

-- of an unclean image with a fault nothing was recovered
never_recovered : (blocks : Blocks) → IsUnclean blocks
    → ((head : Super) (last : ℕ) (window : List CommittedEntry) → Opens blocks head last window → HasNoFault (image_of head blocks window) → ⊥)
    → (found : Recovered) → IsAnswer blocks found → ⊥
never_recovered blocks unclean faulty Clean (head, is, clean) =
    let same : Ok head ≡ Ok unclean.0 = sym is ∙ unclean.1 in
    let heads : head ≡ unclean.0 = cc in
    let both : true ≡ false = sym clean ∙ ap (λ (h : Super). h.clean) heads ∙ unclean.2 in
    cc
never_recovered blocks unclean faulty (Entries count) (head, last, window, opens, clean, counted, none) = faulty head last window opens none

-- and it isn't refused as unclean
unready_so : (s : Setting) (before now : Seen) (recovered : Option ℕ) (why : ImageFault) (blocks : Blocks) → IsTold s.device before blocks → IsUnclean blocks
    → ((head : Super) (last : ℕ) (window : List CommittedEntry) → Opens blocks head last window → HasNoFault (image_of head blocks window) → ⊥)
    → IsUnready s.device before now recovered why → why ≡ image.Unclean → ⊥
unready_so s before now recovered why blocks told unclean faulty (inl not) is =
    subst (λ (w : ImageFault). IsResult blocks before now (Err w)) is (not.recovery.says blocks told)
unready_so s before now recovered why blocks told unclean faulty (inr not) is =
    never_recovered blocks unclean faulty not.found (not.recovery.says blocks told)

same_image : (why : ImageFault) → fault.Image image.Unclean ≡ told_as why → why ≡ image.Unclean
same_image image.Device is = absurd cc
same_image image.Memory is = absurd cc
same_image image.Unclean is = refl
same_image (image.Super f) is = absurd cc
same_image (image.Window sequence) is = absurd cc
same_image (image.Page at f) is = absurd cc
same_image (image.Counter at point) is = absurd cc
same_image (image.SharedPage at) is = absurd cc
same_image (image.Counts at stored mapped) is = absurd cc

script_refused : (s : Setting) (schedule : ℕ) (core : CoreOptions) (before after : Outside) (outcome : Outcome) (blocks : Blocks) → IsTold s.device before.device blocks → IsUnclean blocks
    → ((head : Super) (last : ℕ) (window : List CommittedEntry) → Opens blocks head last window → HasNoFault (image_of head blocks window) → ⊥)
    → RunsScript s (course_of schedule core) before after outcome → (outcome.fault ≢ None) × (outcome.fault ≢ Some (fault.Image image.Unclean))
script_refused s schedule core before after outcome blocks told unclean faulty ends = (not_served, not_unclean)
  where
    not_served : outcome.fault ≢ None
    not_served is =
        let played = played_out s schedule core before after outcome ends is in
        let ready = played.session.serves.ready in
        never_recovered blocks unclean faulty played.found (ready.recovery.says blocks told)

    by_cause : (recovered : Option ℕ) → PlayFails (input_setting_of s) (inputs_of before) (inputs_of after) recovered (fault.Image image.Unclean) → ⊥
    by_cause recovered (inl on_image) =
        unready_so s before.device after.device recovered on_image.fails.cause blocks told unclean faulty on_image.fails.unready (same_image on_image.fails.cause on_image.fails.fault_is)
    by_cause recovered (inr on_script) = absurd on_script.cause

    not_unclean : outcome.fault ≢ Some (fault.Image image.Unclean)
    not_unclean is =
        let begun : NotBegun s before after outcome (fault.Image image.Unclean) = subst (λ (f : Option Fault). RunsScriptBy f s (course_of schedule core) before after outcome) is ends in
        by_cause begun.recovered begun.cause

pub refused_so : (s : Setting) (schedule : ℕ) (core : CoreOptions) (before after : Outside) (outcome : Outcome) (blocks : Blocks) → Settles s.device before.device blocks → IsUnclean blocks
    → ((head : Super) (last : ℕ) (window : List CommittedEntry) → Opens blocks head last window → HasNoFault (image_of head blocks window) → ⊥)
    → EndsFlushed s (RunsScript s (course_of schedule core)) before after outcome → (outcome.fault ≢ None) × (outcome.fault ≢ Some (fault.Image image.Unclean))
refused_so s schedule core before after outcome blocks settles unclean faulty (inl (flushed, is, ends)) =
    script_refused s schedule core (record before { device = flushed }) after outcome blocks (told_behind s.device before.device flushed blocks is settles) unclean faulty ends
refused_so s schedule core before after outcome blocks settles unclean faulty (inr fails) = (
  λ none. no_fault outcome.fault none fails.fault_is,
  λ other. let both : Some fault.Device ≡ Some (fault.Image image.Unclean) = sym fails.fault_is ∙ other in cc,
)

-- A workload.
pub drawn_of : (s : Setting) (options : WorkloadOptions) (before after : Outside) (outcome : Outcome) → EndsFlushed s (EndsWorkload s options) before after outcome
    → outcome.fault ≡ None → (logical : ℕ) × (outcome.report.requests ≡ requests_for options logical)
drawn_of s options before after outcome ends is =
    let does = behind s (EndsWorkload s options) before after outcome ends (no_fault outcome.fault is) in
    let first : Outside = record before { device = does.0 } in
    let served : WorkloadServed s options first after outcome = subst (λ (f : Option Fault). EndsWorkloadBy f s options first after outcome) is does.2.ends in
    (served.session.start.head.geometry.logical, served.session.requests_are)

-- the depth and the logical zones of a run are those of these options
abbrev pub IsRunWith : CoreOptions → Outcome → Type 0
IsRunWith core outcome =
    (logical : ℕ) × IsDeskLog core.depth outcome.report.requests outcome.report.desk
    × ArePlaces core.logical_zones logical outcome.report.requests outcome.report.desk outcome.report.places

pub script_runs_with : (s : Setting) (schedule : ℕ) (core : CoreOptions) (before after : Outside) (outcome : Outcome) → EndsFlushed s (RunsScript s (course_of schedule core)) before after outcome → outcome.fault ≡ None
    → IsRunWith core outcome
script_runs_with s schedule core before after outcome ends none =
    let does = behind s (RunsScript s (course_of schedule core)) before after outcome ends (no_fault outcome.fault none) in
    let played = played_out s schedule core (record before { device = does.0 }) after outcome does.2 none in
    let right = played.session.serves.reported.run_right in
    (_, right.desk_log, right.are_places)

pub workload_runs_with : (s : Setting) (options : WorkloadOptions) (before after : Outside) (outcome : Outcome) → EndsFlushed s (EndsWorkload s options) before after outcome
    → outcome.fault ≡ None → IsRunWith options.core outcome
workload_runs_with s options before after outcome ends none =
    let does = behind s (EndsWorkload s options) before after outcome ends (no_fault outcome.fault none) in
    let first : Outside = record before { device = does.0 } in
    let served : WorkloadServed s options first after outcome = subst (λ (f : Option Fault). EndsWorkloadBy f s options first after outcome) none does.2.ends in
    let right = served.session.serves.reported.run_right in
    (_, right.desk_log, right.are_places)

-- A recovery.
none_is : (f : Option Fault) (why : Fault) → f ≡ None → f ≡ Some why → ⊥
none_is f why one two = let both : None ≡ Some why = sym one ∙ two in cc

is_clean : (blocks : Blocks) → IsCleanImage blocks → (found : Recovered) → IsAnswer blocks found → recovery_text found ≡ codes "clean\n"
is_clean blocks clean Clean answer = refl
is_clean blocks clean (Entries count) (head, last, window, opens, unclean, counted, none) =
    let same : Ok head ≡ Ok clean.0 = sym opens.accepted ∙ clean.1 in
    let heads : head ≡ clean.0 = cc in
    let both : false ≡ true = sym unclean ∙ ap (λ (h : Super). h.clean) heads ∙ clean.2 in
    absurd cc

recovery_clean : (s : Setting) (before after : Outside) (outcome : Outcome) (blocks : Blocks) → IsTold s.device before.device blocks → IsCleanImage blocks
    → IsTrue s.sink_tells → EndsRecovery s before after outcome → outcome.fault ≡ None → after.sink.held ≡ before.sink.held ++ codes "clean\n"
recovery_clean s before after outcome blocks told clean tells ends is = by_result ends.result ends.works ends.ends
  where
    by_result : (result : Result Recovered ImageFault) → IsRecovery s.device before.device after.device result
        → TellsResult s.sink_tells (λ (found : Recovered). Tells s.sink_tells (recovery_text found)) told_as result before.sink after.sink outcome
        → after.sink.held ≡ before.sink.held ++ codes "clean\n"
    by_result (Ok found) works tells_it =
        let put = subst (λ (f : Option Fault). Tells s.sink_tells (recovery_text found) outcome.status f before.sink after.sink) is tells_it.told in
        put.1 tells ∙ ap (λ (text : List ℕ). before.sink.held ++ text) (is_clean blocks clean found (works.says blocks told))
    by_result (Err why) works tells_it = absurd (none_is outcome.fault (told_as why) is tells_it.fault_is)

pub told_clean : (s : Setting) (before after : Outside) (outcome : Outcome) (blocks : Blocks) → Settles s.device before.device blocks → IsCleanImage blocks
    → IsTrue s.sink_tells → EndsFlushed s (EndsRecovery s) before after outcome → outcome.fault ≡ None → after.sink.held ≡ before.sink.held ++ codes "clean\n"
told_clean s before after outcome blocks settles clean tells ends is =
    let does = behind s (EndsRecovery s) before after outcome ends (no_fault outcome.fault is) in
    recovery_clean s (record before { device = does.0 }) after outcome blocks (told_behind s.device before.device does.0 blocks does.1 settles) clean tells does.2 is

-- An audit.
pub none_differs : (s : Setting) (before after : Outside) (outcome : Outcome) → IsTrue s.sink_tells → EndsAudit s before after outcome → outcome.fault ≡ None
    → (report : Report) × (report.differs.items ≡ []) × (after.sink.held ≡ before.sink.held ++ report_text report)
none_differs s before after outcome tells ends is = by_result ends.result ends.ends
  where
    by_result : (result : Result Report ImageFault)
        → TellsResult s.sink_tells (TellsReport s.sink_tells) told_as result before.sink after.sink outcome
        → (report : Report) × (report.differs.items ≡ []) × (after.sink.held ≡ before.sink.held ++ report_text report)
    by_result (Ok report) tells_it =
        let put = subst (λ (f : Option Fault). TellsReport s.sink_tells report outcome.status f before.sink after.sink) is tells_it.told in
        (report, put.0, put.1.1 tells)
    by_result (Err why) tells_it = absurd (none_is outcome.fault (told_as why) is tells_it.fault_is)

-- A crash.
pub shows_it : (s : Setting) (options : CrashOptions) (before after : Outside) (outcome : Outcome) → IsTrue s.sink_tells → EndsCrash s options before after outcome
    → outcome.fault ≡ None
    → (copy : Memory) × (shown : Shown) × (outcome.copy ≡ Some copy) × IsPickShown copy options.image outcome.report.requests shown
    × (after.sink.held ≡ before.sink.held ++ shown_text (stop_of options.after copy.log) shown)
shows_it s options before after outcome tells ends is = by_copy outcome.copy ends.ends refl
  where
    by_copy : (copy : Option Memory) → EndsCrashBy copy s options before after outcome → outcome.copy ≡ copy
        → (copy : Memory) × (shown : Shown) × (outcome.copy ≡ Some copy) × IsPickShown copy options.image outcome.report.requests shown
        × (after.sink.held ≡ before.sink.held ++ shown_text (stop_of options.after copy.log) shown)
    by_copy None not_run copied = absurd (none_is outcome.fault not_run.why is not_run.fault_is)
    by_copy (Some copy) (inr refused) copied = absurd (none_is outcome.fault (told_as refused.why) is refused.fault_is)
    by_copy (Some copy) (inl told) copied =
        let put = subst (λ (f : Option Fault). TellsAudit s.sink_tells (shown_text (stop_of options.after copy.log) told.shown) told.shown.audit outcome.status f before.sink after.sink) is told.told in
        (copy, told.shown, copied, told.shows, put.1.1 tells)

pub crash_runs_with : (s : Setting) (options : CrashOptions) (before after : Outside) (outcome : Outcome) → EndsCrash s options before after outcome → outcome.fault ≡ None
    → (first : Memory) × (copy : Memory) × (outcome.copy ≡ Some copy) × RunsFlushed of_memory (course_of options.schedule options.core) outcome.report (seen_of first) (seen_of copy)
crash_runs_with s options before after outcome ends is = by_copy outcome.copy ends.ends refl
  where
    by_copy : (copy : Option Memory) → EndsCrashBy copy s options before after outcome → outcome.copy ≡ copy
        → (first : Memory) × (copy : Memory) × (outcome.copy ≡ Some copy) × RunsFlushed of_memory (course_of options.schedule options.core) outcome.report (seen_of first) (seen_of copy)
    by_copy None not_run copied = absurd (none_is outcome.fault not_run.why is not_run.fault_is)
    by_copy (Some copy) (inr refused) copied = absurd (none_is outcome.fault (told_as refused.why) is refused.fault_is)
    by_copy (Some copy) (inl told) copied = (told.run.first, copy, copied, told.run.tried.runs)

-- The flush before each of the five.
pub script_flushes : (s : Setting) (schedule : ℕ) (core : CoreOptions) (before after : Outside) (outcome : Outcome) → EndsFlushed s (RunsScript s (course_of schedule core)) before after outcome → outcome.fault ≡ None
    → IsTrue s.device.tells → FlushesFirst s before after
script_flushes s schedule core before after outcome ends none tells =
    flushed_first s (RunsScript s (course_of schedule core)) before after outcome (λ first does.
    let played = played_out s schedule core first after outcome does none in
    (serves_on s.device (course_of schedule core) played.found played.session.start outcome.report first.device after.device played.session.serves).calls tells) ends none tells

pub workload_flushes : (s : Setting) (options : WorkloadOptions) (before after : Outside) (outcome : Outcome) → EndsFlushed s (EndsWorkload s options) before after outcome
    → outcome.fault ≡ None → IsTrue s.device.tells → FlushesFirst s before after
workload_flushes s options before after outcome ends none tells =
    flushed_first s (EndsWorkload s options) before after outcome (λ first does.
    let served : WorkloadServed s options first after outcome = subst (λ (f : Option Fault). EndsWorkloadBy f s options first after outcome) none does.ends in
    (serves_on s.device (course_of options.schedule options.core) served.found served.session.start outcome.report first.device after.device served.session.serves).calls tells) ends none tells

pub recovery_flushes : (s : Setting) (before after : Outside) (outcome : Outcome) → EndsFlushed s (EndsRecovery s) before after outcome → outcome.fault ≡ None
    → IsTrue s.device.tells → FlushesFirst s before after
recovery_flushes s before after outcome ends none tells = flushed_first s (EndsRecovery s) before after outcome (λ first does. does.works.grows tells) ends none tells

pub rebuild_flushes : (s : Setting) (before after : Outside) (outcome : Outcome) → EndsFlushed s (EndsRebuild s) before after outcome → outcome.fault ≡ None
    → IsTrue s.device.tells → FlushesFirst s before after
rebuild_flushes s before after outcome ends none tells = flushed_first s (EndsRebuild s) before after outcome (λ first does. does.works.grows tells) ends none tells

pub growth_flushes : (s : Setting) (options : GrowOptions) (before after : Outside) (outcome : Outcome) → EndsFlushed s (EndsGrowth s options) before after outcome → outcome.fault ≡ None
    → IsTrue s.device.tells → FlushesFirst s before after
growth_flushes s options before after outcome ends none tells = flushed_first s (EndsGrowth s options) before after outcome (λ first does. does.works.grows tells) ends none tells
