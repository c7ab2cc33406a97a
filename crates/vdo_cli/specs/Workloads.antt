-- How a workload ends.
use Rattle.std.specs.Prelude.{ℕ, ◌≡◌, ◌⊎◌, Option, Some, None}
use Rattle.blk_base.specs.declared.opened.Opened.{Opened}
use Rattle.command_text.specs.Tallies.{tally_of}
use Rattle.command_text.specs.Workloads.{summary_text}
use Rattle.command_text.specs.declared.workloads.Summary.{Summary}
use Rattle.disk_model.specs.Seen.{Seen}
use Rattle.disk_model.specs.Trust.{Trust}
use Rattle.rebuild.specs.declared.forms.Recovered.{Recovered}
use Rattle.stream_text.specs.Workloads.{workload_of}
use Rattle.vdo_model.specs.Scripts.{Script}
use Rattle.vdo_model.specs.declared.report.RunReport.{RunReport}
use Rattle.vdo_words.specs.declared.commands.WorkloadOptions.{WorkloadOptions}
use Rattle.vdo_cli.specs.declared.fault.Fault.{Fault}
use Rattle.vdo_cli.specs.declared.fault.Fault.TheVariants as fault
use Rattle.vdo_cli.specs.Closings.{Closes}
use Rattle.vdo_cli.specs.Commands.{course_of}
use Rattle.vdo_cli.specs.Endings.{FailsUnready, KeepsImage, ServesRequests}
use Rattle.vdo_cli.specs.Openings.{IsReady, recovered_of}
use Rattle.vdo_cli.specs.Outsides.{Outcome, Outside, RefusesAfter, Setting}

-- the requests of the seed, at addresses below the logical size
abbrev pub requests_for : WorkloadOptions → ℕ → Script
requests_for options logical = workload_of options.seed options.streams logical options.requests

-- how many there were, how they were answered, and how much of the space is used
abbrev pub summary_of : Option ℕ → WorkloadOptions → RunReport → Summary
summary_of recovered options report = record {
  recovered = recovered;
  requests = options.requests;
  tally = tally_of report.desk;
  space = Some (record { used = report.used; total = report.total });
}

-- a session served the requests of the seed, at the addresses of the image that was opened
pub record ServesWorkload (trust : Trust) (options : WorkloadOptions) (found : Recovered) (report : RunReport) (before after : Seen) : Type 0 where
  pub start : Opened
  pub serves : ServesRequests trust (course_of options.schedule options.core) found start report before after
  pub requests_are : report.requests ≡ requests_for options start.head.geometry.logical

-- the image was opened, and memory ran out before the first request was served
pub record LacksMemory (trust : Trust) (before after : Seen) (recovered : Option ℕ) (why : Fault) : Type 0 where
  pub found : Recovered
  pub recovered_is : recovered ≡ recovered_of found
  pub start : Opened
  pub ready : IsReady trust before after found start
  pub fault_is : why ≡ fault.Memory

-- why no session was begun, and how many entries were recovered before
abbrev pub WorkloadFails : Trust → Seen → Seen → Option ℕ → Fault → Type 0
WorkloadFails trust before after recovered why = FailsUnready trust before after recovered why ⊎ LacksMemory trust before after recovered why

-- No session was begun. The image may have been recovered before: whatever a stop leaves of a sound one says the same.
pub record WorkloadNotBegun (s : Setting) (before after : Outside) (outcome : Outcome) (why : Fault) : Type 0 where
  pub recovered : Option ℕ
  pub cause : WorkloadFails s.device before.device after.device recovered why
  pub early : KeepsImage s.device before.device after.device
  pub refuses : RefusesAfter s.sink_tells recovered why outcome.status outcome.report before.sink after.sink

-- a session was served to its end, and its summary was put
pub record WorkloadServed (s : Setting) (options : WorkloadOptions) (before after : Outside) (outcome : Outcome) : Type 0 where
  pub found : Recovered
  pub session : ServesWorkload s.device options found outcome.report before.device after.device
  pub closes : Closes s.sink_tells (summary_text (summary_of (recovered_of found) options outcome.report)) outcome.report outcome.status outcome.fault
      before.sink after.sink

-- how a workload ends that has this fault, or none
abbrev pub EndsWorkloadBy : Option Fault → Setting → WorkloadOptions → Outside → Outside → Outcome → Type 0
EndsWorkloadBy None s options before after outcome = WorkloadServed s options before after outcome
EndsWorkloadBy (Some fault.Sink) s options before after outcome = WorkloadServed s options before after outcome
EndsWorkloadBy (Some why) s options before after outcome = WorkloadNotBegun s before after outcome why

-- how a workload ends; and the script wasn't looked at
pub record EndsWorkload (s : Setting) (options : WorkloadOptions) (before after : Outside) (outcome : Outcome) : Type 0 where
  pub ends : EndsWorkloadBy outcome.fault s options before after outcome
  pub source : after.source ≡ before.source
