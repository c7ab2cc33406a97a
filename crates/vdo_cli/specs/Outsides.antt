-- What contracts see of the outside of a run, and what a fault puts there.
use Rattle.std.specs.Prelude.{ℕ, ◌≡◌, ◌⊎◌, ◌++◌, Bool, IsTrue, List, [], Option, Some, None}
use Rattle.disk_model.specs.Causes.{Rose}
use Rattle.disk_model.specs.Memory.{Memory}
use Rattle.disk_model.specs.Seen.{Seen}
use Rattle.disk_model.specs.Trust.{Trust}
use Rattle.disk_model.specs.Streams.{PutsPart, SinkSeen, SourceSeen}
use Rattle.vdo_model.specs.declared.report.RunReport.{RunReport}
use Rattle.vdo_cli.specs.declared.fault.Fault.{Fault}
use Rattle.vdo_cli.specs.declared.fault.Fault.TheVariants as fault
use Rattle.vdo_cli.specs.Texts.{fault_text, fault_status, refusal_text}

-- Which of the outside tell, and whether the device is honest.
pub record Setting : Type 0 where
  pub device : Trust
  pub source_tells : Bool
  pub sink_tells : Bool

abbrev pub setting : Trust → Bool → Bool → Setting
setting trust source_tells sink_tells =
    record { device = trust; source_tells = source_tells; sink_tells = sink_tells }

-- What contracts see of the outside at a moment.
pub record Outside : Type 0 where
  pub device : Seen
  pub source : SourceSeen
  pub sink : SinkSeen

abbrev pub outside : Seen → SourceSeen → SinkSeen → Outside
outside device source sink = record { device = device; source = source; sink = sink }

-- What a session reads of: its device and its source, at a moment and by their types.
pub record Inputs : Type 0 where
  pub device : Seen
  pub source : SourceSeen

abbrev pub inputs : Seen → SourceSeen → Inputs
inputs device source = record { device = device; source = source }

abbrev pub inputs_of : Outside → Inputs
inputs_of all = inputs all.device all.source

pub record InputSetting : Type 0 where
  pub device : Trust
  pub source_tells : Bool

abbrev pub input_setting : Trust → Bool → InputSetting
input_setting trust source_tells = record { device = trust; source_tells = source_tells }

abbrev pub input_setting_of : Setting → InputSetting
input_setting_of s = record { device = s.device; source_tells = s.source_tells }

-- How a run ended: its status, what became of its requests, why no other status, and the copy on which a stop was tried.
pub record Outcome : Type 0 where
  pub status : ℕ
  pub report : RunReport
  pub fault : Option Fault
  pub copy : Option Memory

abbrev pub outcome_with : ℕ → RunReport → Option Fault → Option Memory → Outcome
outcome_with status report why copy = record { status = status; report = report; fault = why; copy = copy }

-- without a copy
abbrev pub outcome : ℕ → RunReport → Option Fault → Outcome
outcome status report why = outcome_with status report why None

-- a text was put, or a first part of it and the sink failed
abbrev pub PutsOrFails : Bool → List ℕ → SinkSeen → SinkSeen → Type 0
PutsOrFails tells text before after =
    (IsTrue tells → after.held ≡ before.held ++ text)
    ⊎ (Rose before.faults after.faults × (IsTrue tells → PutsPart before.held after.held text))

-- a text is put, with status 0; or a first part of it and the sink failed, with status 7
abbrev pub Tells : Bool → List ℕ → ℕ → Option Fault → SinkSeen → SinkSeen → Type 0
Tells tells text status None before after = (status ≡ 0) × (IsTrue tells → after.held ≡ before.held ++ text)
Tells tells text status (Some fault.Sink) before after =
    (status ≡ 7) × Rose before.faults after.faults × (IsTrue tells → PutsPart before.held after.held text)
Tells tells text status (Some other) before after = ⊥

-- the report where no session was begun
abbrev pub no_report : RunReport
no_report = record { requests = []; desk = []; marks = []; receipts = []; places = []; histories = []; damage = None; used = 0; total = 0 }

-- no session was begun: its fault's line is put, behind what was recovered, with the fault's status
pub record RefusesAfter (tells : Bool) (recovered : Option ℕ) (why : Fault) (status : ℕ) (report : RunReport) (before after : SinkSeen) : Type 0 where
  pub status_is : status ≡ fault_status why
  pub report_is : report ≡ no_report
  pub puts : PutsOrFails tells (refusal_text recovered why) before after

-- a fault's line is put, with its status
pub record Refuses (tells : Bool) (why : Fault) (status : ℕ) (report : RunReport) (before after : SinkSeen) : Type 0 where
  pub status_is : status ≡ fault_status why
  pub report_is : report ≡ no_report
  pub puts : PutsOrFails tells (fault_text why) before after
