-- How a run ends, and why.
use Rattle.std.specs.Prelude.{ℕ, ◌≡◌, ◌⊎◌, ◌+◌, ◌^◌, Bool, IsTrue, [], Option, None, Ok, Err}
use Rattle.blk_base.specs.declared.opened.Opened.{Opened}
use Rattle.disk_model.specs.Causes.{Rose}
use Rattle.disk_model.specs.Seen.{Seen, Stays}
use Rattle.disk_model.specs.Trust.{Trust}
use Rattle.disk_model.specs.Since.{SinceThen}
use Rattle.disk_model.specs.Streams.{SourceSeen}
use Rattle.image_model.specs.Maps.{value_of}
use Rattle.image_model.specs.declared.fault.ImageFault.{ImageFault}
use Rattle.core_model.specs.Reports.{IsMappedIn}
use Rattle.core_model.specs.Trace.{Trace, calls, moments}
use Rattle.rebuild.specs.declared.forms.Recovered.{Recovered}
use Rattle.recovery_laws.specs.Kept.{AreInside, image_in}
use Rattle.core_stops.specs.Ends.{EndsRight}
use Rattle.core_stops.specs.Logs.{StopsRight, StopsShow, report_from}
use Rattle.core_stops.specs.Sequences.{ShowsValues, next_start}
use Rattle.stream_text.specs.WholeScript.{whole_script}
use Rattle.vdo_model.specs.declared.report.RunReport.{RunReport}
use Rattle.vdo_model.specs.FlushMarks.{successes}
use Rattle.vdo_model.specs.QuietWrites.{QuietRight}
use Rattle.vdo_model.specs.RightReads.{ReadsRight}
use Rattle.vdo_cli.specs.declared.fault.Fault.{Fault}
use Rattle.vdo_cli.specs.declared.fault.Fault.TheVariants as fault
use Rattle.vdo_cli.specs.declared.words.Course.{Course}
use Rattle.vdo_cli.specs.Inspections.{told_as}
use Rattle.vdo_cli.specs.Openings.{HasSequencesLeft, IsReady, IsUnready, OfSound, recovered_of}
use Rattle.vdo_cli.specs.Outsides.{InputSetting, Inputs}
use Rattle.vdo_cli.specs.Sessions.{IsDriven, IsReported, task}
use Rattle.vdo_cli.specs.Stops.{Happens}

-- Whatever a stop leaves of a sound image at each moment since is a sound one of the same sizes, each address has the value
-- that it had, and the next session's first sequence is no later. No block behind the image was written.
abbrev pub KeepsImage : Trust → Seen → Seen → Type 0
KeepsImage trust before now = OfSound trust before (λ image sound.
    SinceThen (λ calls. StopsShow (ShowsValues sound.head.geometry (next_start image sound)) before.opening before.log sound.head.geometry.logical
    (value_of (image_in image sound)) calls × AreInside sound.head.geometry calls) before.log now.log)

-- what a session did, from the recovery on, of which this was found, and which started with this
pub record ServesRequests (trust : Trust) (course : Course) (found : Recovered) (start : Opened) (report : RunReport) (before after : Seen) : Type 0 where
  -- what the device was when the session started
  pub opened : Seen
  pub ready : IsReady trust before opened found start
  -- a core served the requests by the schedule from then on
  pub trace : Trace
  pub driven : IsDriven trust course.schedule (task course.setup start report.requests) trace opened after
  pub reported : IsReported course.setup start report trace opened after
  pub stays : Stays before after
  -- before the first write of an address in the session, a read of it gives its value in the image that there was
  pub reads_right : OfSound trust before
      (λ image sound. ReadsRight (value_of (image_in image sound)) report.requests report.desk report.places report.histories)
  -- and no leaf is found not to decode
  pub undamaged : OfSound trust before (λ image sound. report.damage ≡ None)
  -- A write that found no space with nothing else under way, right behind a flush or as the first request: by each image that a
  -- stop behind that flush could leave, or in which the session began, all data blocks but a few are mapped.
  pub quiet : OfSound trust before (λ image sound. QuietRight (IsMappedIn start.head.geometry start.head.start) start.head.geometry opened.opening opened.log report (calls trace))
  -- flush marks
  pub happens : IsTrue trust.tells → Happens (moments trace) report before opened after
  -- a stop before the session leaves an image that says the same
  pub early : KeepsImage trust before opened
  -- the session wrote no block behind the image, whatever its device is; and neither did the recovery of a sound one
  pub inside : IsTrue trust.tells → SinceThen (AreInside start.head.geometry) opened.log after.log
  pub inside_since : OfSound trust before (λ image sound. SinceThen (AreInside start.head.geometry) before.log after.log)
  -- A stop at any moment of it all, from the recovery on, leaves a sound image of the same sizes, on which the next session's
  -- first sequence is at most 2^18 later; and each address has a value that its history and the flushes that were answered
  -- allow. The marks of the report are counted from the first call of the device's log.
  pub stops : OfSound trust before (λ image sound. HasSequencesLeft image sound
      → StopsRight (ShowsValues sound.head.geometry (next_start image sound + 2 ^ 18)) before.opening before.log after.log
      sound.head.geometry.logical (value_of (image_in image sound)) (report_from (successes opened.log) report))
  -- The end is more than a stop: behind one flush right after it each address has the value of its last settled entry, or of an
  -- unsettled one behind that, whether or not a flush of the session covers it.
  pub ends : OfSound trust before (λ image sound. HasSequencesLeft image sound
      → EndsRight (ShowsValues sound.head.geometry (next_start image sound + 2 ^ 18)) before.opening after.log sound.head.geometry.logical
      (value_of (image_in image sound)) report)

-- so of a script, which was read to its end
pub record RunsSession (s : InputSetting) (course : Course) (found : Recovered) (report : RunReport) (before after : Inputs) : Type 0 where
  pub start : Opened
  pub serves : ServesRequests s.device course found start report before.device after.device
  -- the requests are those of the script
  pub script_is : IsTrue s.source_tells → whole_script before.source.left ≡ Ok report.requests
  pub to_its_end : IsTrue s.source_tells → after.source.left ≡ []

-- why a script can't be served
abbrev pub ScriptFails : Bool → SourceSeen → SourceSeen → Fault → Type 0
-- this line is the first with a fault
ScriptFails tells before after (fault.Script refusal) = IsTrue tells → whole_script before.left ≡ Err refusal
-- the source failed
ScriptFails tells before after fault.Read = Rose before.faults after.faults
-- memory ran out
ScriptFails tells before after fault.Memory = Unit {0}
ScriptFails tells before after other = ⊥

-- the image wasn't recovered or opened
pub record FailsUnready (trust : Trust) (before after : Seen) (recovered : Option ℕ) (why : Fault) : Type 0 where
  pub cause : ImageFault
  pub fault_is : why ≡ told_as cause
  pub unready : IsUnready trust before after recovered cause

-- so, and nothing was taken of the script
pub record FailsOnImage (s : InputSetting) (before after : Inputs) (recovered : Option ℕ) (why : Fault) : Type 0 where
  pub fails : FailsUnready s.device before.device after.device recovered why
  pub unread : after.source ≡ before.source

-- it was opened, and the script can't be served
pub record FailsOnScript (s : InputSetting) (before after : Inputs) (recovered : Option ℕ) (why : Fault) : Type 0 where
  pub found : Recovered
  pub recovered_is : recovered ≡ recovered_of found
  pub start : Opened
  pub ready : IsReady s.device before.device after.device found start
  pub cause : ScriptFails s.source_tells before.source after.source why

-- why no session was begun, and how many entries were recovered before
abbrev pub PlayFails : InputSetting → Inputs → Inputs → Option ℕ → Fault → Type 0
PlayFails s before after recovered why = FailsOnImage s before after recovered why ⊎ FailsOnScript s before after recovered why
