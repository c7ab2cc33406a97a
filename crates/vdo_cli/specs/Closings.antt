-- How the text of a session is put, and with what status.
use Rattle.std.specs.Prelude.{ℕ, ◌≡◌, ◌++◌, Bool, IsTrue, List, Option, Some, None}
use Rattle.disk_model.specs.Causes.{Rose}
use Rattle.disk_model.specs.Streams.{PutsPart, SinkSeen}
use Rattle.vdo_model.specs.declared.report.RunReport.{RunReport}
use Rattle.vdo_cli.specs.declared.fault.Fault.{Fault}
use Rattle.vdo_cli.specs.declared.fault.Fault.TheVariants as fault
use Rattle.vdo_cli.specs.Outsides.{PutsOrFails}
use Rattle.vdo_cli.specs.Texts.{served_status, struck_status}

-- The text of a session is put, with its status: that of damage or of the device's failure, also where the sink failed; or else that
-- of its answers.
abbrev pub PutsWith : Option ℕ → Bool → List ℕ → ℕ → ℕ → SinkSeen → SinkSeen → Type 0
PutsWith (Some struck) tells text served status before after = (status ≡ struck) × PutsOrFails tells text before after
PutsWith None tells text served status before after = (status ≡ served) × (IsTrue tells → after.held ≡ before.held ++ text)

-- it is put so, or the sink failed
abbrev pub Closes : Bool → List ℕ → RunReport → ℕ → Option Fault → SinkSeen → SinkSeen → Type 0
Closes tells text report status None before after = PutsWith (struck_status report) tells text (served_status report.desk) status before after
Closes tells text report status (Some fault.Sink) before after =
    (status ≡ 7) × (struck_status report ≡ None) × Rose before.faults after.faults × (IsTrue tells → PutsPart before.held after.held text)
Closes tells text report status (Some other) before after = ⊥
