-- A device goes on over runs.
use Rattle.std.proofs.Common.{ℕ, ◌≡◌, ◌++◌, Bool, true, false, List, [], ◌∷◌, Option, Some, None, Result, Ok, inl, inr, refl, sym, ◌∙◌, ap, append_assoc}
use Rattle.blk_base.specs.declared.geometry.Geometry.{Geometry}
use Rattle.blk_base.specs.declared.opened.Opened.{Opened}
use Rattle.disk_model.specs.declared.call.Call.{Call}
use Rattle.disk_model.specs.declared.call.Call.TheVariants.{Flush}
use Rattle.disk_model.specs.Seen.{Seen}
use Rattle.disk_model.specs.Trust.{Trust}
use Rattle.disk_model.specs.Since.{IsUntouched}
use Rattle.disk_model.proofs.SeenLaws.{stays_on}
use Rattle.core_model.specs.Trace.{calls}
use Rattle.image_model.specs.declared.fault.ImageFault.{ImageFault}
use Rattle.rebuild.specs.Recoveries.{IsRecovery}
use Rattle.rebuild.specs.declared.forms.Recovered.{Recovered}
use Rattle.vdo_cli.specs.declared.words.Course.{Course}
use Rattle.vdo_cli.specs.declared.fault.Fault.{Fault}
use Rattle.vdo_cli.specs.declared.fault.Fault.TheVariants as fault
use Rattle.vdo_cli.specs.Onward.{GoesOn}
use Rattle.vdo_cli.specs.declared.words.Change.{Change}
use Rattle.vdo_cli.specs.declared.words.Change.TheVariants as change
use Rattle.vdo_cli.specs.declared.words.Served.{Served}
use Rattle.vdo_cli.specs.declared.words.Served.TheVariants as served
use Rattle.vdo_cli.specs.Commands.{course_of, served_of}
use Rattle.vdo_cli.specs.NewImages.{MakesImage}
use Rattle.vdo_cli.specs.Openings.{IsUnready}
use Rattle.vdo_cli.specs.Outsides.{Outcome, Outside, Setting}
use Rattle.vdo_cli.specs.Flushes.{IsFlushed, IsNotFlushed}
use Rattle.vdo_cli.specs.Runs.{EndsAs, EndsChange, EndsFlushed, EndsSo, NotBegun, PlayedOut, RunsScriptBy}
use Rattle.vdo_cli.specs.Endings.{ServesRequests}
use Rattle.vdo_cli.specs.Workloads.{EndsWorkloadBy, WorkloadNotBegun, WorkloadServed}
use Rattle.vdo_model.specs.declared.report.RunReport.{RunReport}
use Rattle.vdo_words.specs.declared.commands.WorkloadOptions.{WorkloadOptions}

untouched : (tells : Bool) (before after : Seen) → IsUntouched tells before after → GoesOn tells before after
untouched tells before after is = record { stays = is.stays; calls = λ told. let since = is.reads told in (since.0, since.1) }

-- over one run and the next
pub goes_on : (tells : Bool) (first middle last : Seen) → GoesOn tells first middle → GoesOn tells middle last → GoesOn tells first last
goes_on tells first middle last old new = record {
  stays = stays_on first middle last old.stays new.stays;
  calls = λ told.
      let older = old.calls told in
      let newer = new.calls told in
      (newer.0 ++ older.0, newer.1 ∙ ap (λ (log : List Call). newer.0 ++ log) older.1 ∙ sym (append_assoc newer.0 older.0 first.log));
}

recovered : (trust : Trust) (before middle after : Seen) (result : Result Recovered ImageFault) → IsRecovery trust before middle result → IsUntouched trust.tells middle after → GoesOn trust.tells before after
recovered trust before middle after result recovery reads =
    goes_on trust.tells before middle after (record { stays = recovery.stays; calls = recovery.grows }) (untouched trust.tells middle after reads)

pub not_ready : (trust : Trust) (before after : Seen) (recovered_so : Option ℕ) (why : ImageFault) → IsUnready trust before after recovered_so why → GoesOn trust.tells before after
not_ready trust before after recovered_so why (inl is) = record { stays = is.recovery.stays; calls = is.recovery.grows }
not_ready trust before after recovered_so why (inr is) = recovered trust before is.middle after (Ok is.found) is.recovery is.opening.untouched

not_begun : (s : Setting) (before after : Outside) (ends : Outcome) (why : Fault)
    → NotBegun s before after ends why → GoesOn s.device.tells before.device after.device
not_begun s before after ends why fails = elim fails.cause [
  | inl on_image ↦ not_ready s.device before.device after.device fails.recovered on_image.fails.cause on_image.fails.unready
  | inr on_script ↦ recovered s.device before.device on_script.ready.middle after.device (Ok on_script.found) on_script.ready.recovery on_script.ready.opening.untouched
]

pub serves_on : (trust : Trust) (course : Course) (found : Recovered) (start : Opened) (report : RunReport) (before after : Seen)
    → ServesRequests trust course found start report before after → GoesOn trust.tells before after
serves_on trust course found start report before after session = record {
  stays = session.stays;
  calls = λ told.
      let happens = session.happens told in
      let since = calls session.trace in (
        since ++ happens.earlier,
        happens.calls ∙ ap (λ (log : List Call). since ++ log) happens.earlier_is ∙ sym (append_assoc since happens.earlier before.log),
      );
}

played : (s : Setting) (course : Course) (before after : Outside) (ends : Outcome)
    → PlayedOut s course before after ends → GoesOn s.device.tells before.device after.device
played s course before after ends out = serves_on s.device course out.found out.session.start ends.report before.device after.device out.session.serves

script_goes_on : (ended : Option Fault) (s : Setting) (course : Course) (before after : Outside) (ends : Outcome)
    → RunsScriptBy ended s course before after ends → GoesOn s.device.tells before.device after.device
script_goes_on None s course before after ends out = played s course before after ends out
script_goes_on (Some fault.Sink) s course before after ends out = played s course before after ends out
script_goes_on (Some other) s course before after ends fails = not_begun s before after ends other fails

worked : (s : Setting) (options : WorkloadOptions) (before after : Outside) (ends : Outcome)
    → WorkloadServed s options before after ends → GoesOn s.device.tells before.device after.device
worked s options before after ends out = serves_on s.device (course_of options.schedule options.core) out.found out.session.start ends.report before.device after.device out.session.serves

not_worked : (s : Setting) (before after : Outside) (ends : Outcome) (why : Fault)
    → WorkloadNotBegun s before after ends why → GoesOn s.device.tells before.device after.device
not_worked s before after ends why fails = elim fails.cause [
  | inl unready ↦ not_ready s.device before.device after.device fails.recovered unready.cause unready.unready
  | inr lacks ↦ recovered s.device before.device lacks.ready.middle after.device (Ok lacks.found) lacks.ready.recovery lacks.ready.opening.untouched
]

workload_goes_on : (ended : Option Fault) (s : Setting) (options : WorkloadOptions) (before after : Outside) (ends : Outcome)
    → EndsWorkloadBy ended s options before after ends → GoesOn s.device.tells before.device after.device
workload_goes_on None s options before after ends out = worked s options before after ends out
workload_goes_on (Some fault.Sink) s options before after ends out = worked s options before after ends out
workload_goes_on (Some other) s options before after ends fails = not_worked s before after ends other fails

format_goes_on : (s : Setting) (g : Geometry) (before after : Outside) (ends : Outcome)
    → MakesImage s g before after ends → GoesOn s.device.tells before.device after.device
format_goes_on s g before after ends makes = record {
  stays = makes.stays;
  calls = λ told. let since = makes.stops told in (since.0, since.1);
}

same_device : (tells : Bool) (before after : Seen) → after ≡ before → GoesOn tells before after
same_device tells before after same = rw same (record { stays = record { opening = refl; size = refl }; calls = λ told. ([], refl) })

-- over a change of an image
pub change_goes_on : (s : Setting) (asked : Change) (before after : Outside) (outcome : Outcome)
    → EndsChange s asked before after outcome → GoesOn s.device.tells before.device after.device
change_goes_on s (change.Script course) before after outcome ends = script_goes_on outcome.fault s course before after outcome ends
change_goes_on s (change.Workload options) before after outcome ends = workload_goes_on outcome.fault s options before after outcome ends.ends
change_goes_on s change.Recover before after outcome ends = record { stays = ends.works.stays; calls = ends.works.grows }
change_goes_on s change.ForceRebuild before after outcome ends = record { stays = ends.works.stays; calls = ends.works.grows }
change_goes_on s (change.Grow options) before after outcome ends = record { stays = ends.works.stays; calls = ends.works.grows }

-- and the flush before it
pub flush_goes_on : (tells : Bool) (before flushed : Seen) → IsFlushed tells before flushed → GoesOn tells before flushed
flush_goes_on tells before flushed is = record { stays = is.stays; calls = λ told. (Flush true ∷ [], is.logged told) }

pub failed_goes_on : (tells : Bool) (before now : Seen) → IsNotFlushed tells before now → GoesOn tells before now
failed_goes_on tells before now is = record {
  stays = is.stays;
  calls = λ told. elim (is.logged told) [ inl failed ↦ (Flush false ∷ [], failed) | inr unkept ↦ ([], unkept.0) ];
}

flushed_goes_on : (s : Setting) (asked : Change) (before after : Outside) (outcome : Outcome)
    → EndsFlushed s asked before after outcome → GoesOn s.device.tells before.device after.device
flushed_goes_on s asked before after outcome (inl (flushed, is, ends)) =
    goes_on s.device.tells before.device flushed after.device (flush_goes_on s.device.tells before.device flushed is)
    (change_goes_on s asked (record before { device = flushed }) after outcome ends)
flushed_goes_on s asked before after outcome (inr fails) = failed_goes_on s.device.tells before.device after.device fails.device

-- over what is served
served_goes_on : (s : Setting) (asked : Option Served) (before after : Outside) (outcome : Outcome)
    → EndsAs s asked before after outcome → GoesOn s.device.tells before.device after.device
served_goes_on s None before after outcome ends = same_device s.device.tells before.device after.device ends.device
served_goes_on s (Some (served.Change asked)) before after outcome ends = flushed_goes_on s asked before after outcome ends
served_goes_on s (Some (served.Crash options)) before after outcome ends = untouched s.device.tells before.device after.device ends.untouched
served_goes_on s (Some (served.Format sizes)) before after outcome ends = format_goes_on s sizes before after outcome ends
served_goes_on s (Some served.Audit) before after outcome ends = untouched s.device.tells before.device after.device ends.works.untouched
served_goes_on s (Some served.Status) before after outcome ends = untouched s.device.tells before.device after.device ends.works.untouched

-- over a run
pub run_goes_on : (s : Setting) (words : List (List ℕ)) (before after : Outside) (outcome : Outcome)
    → EndsSo s words before after outcome → GoesOn s.device.tells before.device after.device
run_goes_on s words before after outcome ends = served_goes_on s (served_of words) before after outcome ends
