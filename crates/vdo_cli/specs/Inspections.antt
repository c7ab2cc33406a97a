-- How the commands end that look at an image: of what was read, and with nothing written.
use Rattle.std.specs.Prelude.{ℕ, ◌≡◌, ◌≤◌, Bool, [], length, Option, Some, Result, IfOk, IfErr}
use Rattle.audit.specs.Audits.{AuditFails, IsAudited}
use Rattle.audit.specs.declared.forms.Report.{Report}
use Rattle.command_text.specs.Audits.{report_text}
use Rattle.command_text.specs.Statuses.{status_text}
use Rattle.disk_model.specs.Seen.{Seen}
use Rattle.disk_model.specs.Trust.{Trust}
use Rattle.disk_model.specs.Since.{IsUntouched}
use Rattle.disk_model.specs.Streams.{SinkSeen}
use Rattle.image_model.specs.declared.fault.ImageFault.{ImageFault}
use Rattle.image_model.specs.declared.fault.ImageFault.TheVariants as image
use Rattle.image_status.specs.Statuses.{IsStatusRead}
use Rattle.image_status.specs.declared.forms.ImageStatus.{ImageStatus}
use Rattle.vdo_cli.specs.declared.fault.Fault.{Fault}
use Rattle.vdo_cli.specs.declared.fault.Fault.TheVariants as fault
use Rattle.vdo_cli.specs.Outsides.{Outcome, Outside, PutsOrFails, Setting, Tells}
use Rattle.vdo_cli.specs.Results.{EndsBy, TellsResult}

-- Both commands.

-- what was wrong with an image, as the fault of a run: a device that failed, and want of memory, aren't of the image
abbrev pub told_as : ImageFault → Fault
told_as image.Device = fault.Device
told_as image.Memory = fault.Memory
told_as other = fault.Image other

-- what a look at an image found so, or why nothing; the device was read and no more
pub record Looks {T : Type 0} (trust : Trust) (Finds : T → Type 0) (before after : Seen) (result : Result T ImageFault) : Type 0 where
  pub found : IfOk result Finds
  pub failed : IfErr result (AuditFails trust before after)
  pub untouched : IsUntouched trust.tells before after

-- The audit.

-- its text is put: where blocks differ, with status 6 and their number, also where the sink failed; else with status 0, or
-- with 7 where the sink failed
abbrev pub TellsReport : Bool → Report → ℕ → Option Fault → SinkSeen → SinkSeen → Type 0
TellsReport tells report status (Some (fault.Differs count)) before after =
    (1 ≤ count) × (count ≡ length report.differs.items) × (status ≡ 6) × PutsOrFails tells (report_text report) before after
TellsReport tells report status ended before after =
    (report.differs.items ≡ []) × Tells tells (report_text report) status ended before after

-- how an audit ends: its report is put, or the line of a fault
abbrev pub EndsAudit : Setting → Outside → Outside → Outcome → Type 0
EndsAudit s before after outcome =
    EndsBy (λ from to. Looks s.device (IsAudited s.device from to) from to) (TellsResult s.sink_tells (TellsReport s.sink_tells) told_as) before after outcome

-- The status.

-- how it ends: it was put, or a part of it and the sink failed; or the line of a fault was put
abbrev pub EndsStatus : Setting → Outside → Outside → Outcome → Type 0
EndsStatus s before after outcome =
    EndsBy (λ from to. Looks s.device (IsStatusRead s.device from to) from to)
    (TellsResult s.sink_tells (λ (found : ImageStatus). Tells s.sink_tells (status_text found)) told_as) before after outcome
