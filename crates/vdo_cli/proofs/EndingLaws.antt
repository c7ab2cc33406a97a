-- A run ends by what its fault says.
use Rattle.std.proofs.Common.{ℕ, ◌≡◌, Bool, List, [], Option, Some, None, Result, Ok, Err, inl, inr}
use Rattle.blk_base.specs.declared.geometry.Geometry.{Geometry}
use Rattle.disk_model.specs.Seen.{Seen}
use Rattle.disk_model.specs.Trust.{Trust}
use Rattle.disk_model.specs.Streams.{Puts, SinkSeen}
use Rattle.image_model.specs.declared.fault.ImageFault.{ImageFault}
use Rattle.image_model.specs.declared.fault.ImageFault.TheVariants as image
use Rattle.audit.specs.declared.forms.Report.{Report}
use Rattle.command_text.specs.Audits.{report_text}
use Rattle.vdo_model.specs.declared.report.RunReport.{RunReport}
use Rattle.vdo_cli.specs.declared.words.Course.{Course}
use Rattle.vdo_cli.specs.declared.fault.Fault.{Fault}
use Rattle.vdo_cli.specs.declared.fault.Fault.TheVariants as fault
use Rattle.vdo_cli.specs.Endings.{PlayFails}
use Rattle.vdo_cli.specs.NewImages.{IsMade, IsMadeOrNot, IsNotMade}
use Rattle.vdo_cli.specs.Inspections.{TellsReport, told_as}
use Rattle.vdo_cli.specs.Outsides.{InputSetting, Inputs, Outcome, Outside, PutsOrFails, Setting, Tells, input_setting_of, inputs_of, outcome}
use Rattle.vdo_cli.specs.Runs.{NotBegun, PlayedOut, RunsScript}
use Rattle.vdo_cli.specs.Workloads.{EndsWorkloadBy, WorkloadFails, WorkloadNotBegun, WorkloadServed}
use Rattle.vdo_words.specs.declared.commands.WorkloadOptions.{WorkloadOptions}

-- after a session
pub served_ends : (s : Setting) (course : Course) (before after : Outside) (status : ℕ) (report : RunReport) (ended : Option Fault)
    → PlayedOut s course before after (outcome status report ended) → RunsScript s course before after (outcome status report ended)
served_ends s course before after status report None served = served
served_ends s course before after status report (Some fault.Sink) served = served
served_ends s course before after status report (Some other) served = absurd served.closes

-- the sink is no cause for that
not_told : (cause : ImageFault) → fault.Sink ≡ told_as cause → ⊥
not_told image.Device is = absurd cc
not_told image.Memory is = absurd cc
not_told image.Unclean is = absurd cc
not_told (image.Super fault) is = absurd cc
not_told (image.Window sequence) is = absurd cc
not_told (image.Page at fault) is = absurd cc
not_told (image.Counter at point) is = absurd cc
not_told (image.SharedPage at) is = absurd cc
not_told (image.Counts at stored mapped) is = absurd cc

never_sink : (s : InputSetting) (before after : Inputs) (recovered : Option ℕ) → PlayFails s before after recovered fault.Sink → ⊥
never_sink s before after recovered (inl on_image) = not_told on_image.fails.cause on_image.fails.fault_is
never_sink s before after recovered (inr on_script) = absurd on_script.cause

-- where no session was begun
pub not_begun_ends : (s : Setting) (course : Course) (before after : Outside) (status : ℕ) (report : RunReport) (why : Fault)
    → NotBegun s before after (outcome status report (Some why)) why → RunsScript s course before after (outcome status report (Some why))
not_begun_ends s course before after status report fault.Sink begun = absurd (never_sink (input_setting_of s) (inputs_of before) (inputs_of after) begun.recovered begun.cause)
not_begun_ends s course before after status report other begun = begun

-- after a session of a workload
pub workload_served_ends : (s : Setting) (options : WorkloadOptions) (before after : Outside) (status : ℕ) (report : RunReport) (ended : Option Fault)
    → WorkloadServed s options before after (outcome status report ended) → EndsWorkloadBy ended s options before after (outcome status report ended)
workload_served_ends s options before after status report None served = served
workload_served_ends s options before after status report (Some fault.Sink) served = served
workload_served_ends s options before after status report (Some other) served = absurd served.closes

workload_never_sink : (trust : Trust) (before after : Seen) (recovered : Option ℕ) → WorkloadFails trust before after recovered fault.Sink → ⊥
workload_never_sink trust before after recovered (inl unready) = not_told unready.cause unready.fault_is
workload_never_sink trust before after recovered (inr lacks) = absurd (let is = lacks.fault_is in cc is)

-- where none was begun
pub workload_not_begun_ends : (s : Setting) (options : WorkloadOptions) (before after : Outside) (status : ℕ) (report : RunReport) (why : Fault)
    → WorkloadNotBegun s before after (outcome status report (Some why)) why → EndsWorkloadBy (Some why) s options before after (outcome status report (Some why))
workload_not_begun_ends s options before after status report fault.Sink begun = absurd (workload_never_sink s.device before.device after.device begun.recovered begun.cause)
workload_not_begun_ends s options before after status report other begun = begun

-- where an image was made
pub made_ends : (s : Setting) (g : Geometry) (before after : Outside) (status : ℕ) (report : RunReport) (ended : Option Fault)
    → IsMade s g before after (outcome status report ended) → IsMadeOrNot ended s g before after (outcome status report ended)
made_ends s g before after status report None made = made
made_ends s g before after status report (Some fault.Sink) made = made
made_ends s g before after status report (Some other) made = absurd made.line

-- where none was made
pub not_made_ends : (s : Setting) (g : Geometry) (before after : Outside) (outcome : Outcome) (why : Fault)
    → IsNotMade s g before after outcome why → IsMadeOrNot (Some why) s g before after outcome
not_made_ends s g before after outcome fault.Sink not_made = absurd not_made.cause
not_made_ends s g before after outcome other not_made = not_made

-- a text that was put, or whose sink failed
pub puts_or_fails : {T E : Type 0} {tells : Bool} {text : List ℕ} {before after : SinkSeen} {result : Result T E}
    → Puts tells text before after result → PutsOrFails tells text before after
puts_or_fails {result = Ok x} puts = inl puts.ok
puts_or_fails {result = Err e} puts = inr (puts.cause.failed, puts.err)

-- a report in which no block differs is told as what was found by any other command
pub tells_clean : (tells : Bool) (report : Report) (status : ℕ) (ended : Option Fault) (before after : SinkSeen)
    → report.differs.items ≡ [] → Tells tells (report_text report) status ended before after
    → TellsReport tells report status ended before after
tells_clean tells report status None before after none told = (none, told)
tells_clean tells report status (Some (fault.Differs count)) before after none told = absurd told
tells_clean tells report status (Some other) before after none told = (none, told)
