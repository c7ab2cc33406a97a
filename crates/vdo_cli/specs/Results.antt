-- How a command ends whose work on the device has a result: what was found, or why nothing was.
use Rattle.std.specs.Prelude.{ℕ, ◌≡◌, Bool, Option, Some, Result, Ok, Err}
use Rattle.disk_model.specs.Seen.{Seen}
use Rattle.disk_model.specs.Streams.{SinkSeen}
use Rattle.vdo_cli.specs.declared.fault.Fault.{Fault}
use Rattle.vdo_cli.specs.Outsides.{Outcome, Outside, Refuses, no_report}

-- what was found was told so, and there is no report of a session
pub record IsFoundTold (Told : ℕ → Option Fault → SinkSeen → SinkSeen → Type 0) (before after : SinkSeen) (outcome : Outcome) : Type 0 where
  pub report_is : outcome.report ≡ no_report
  pub told : Told outcome.status outcome.fault before after

-- nothing was found, and the line of this fault was put
pub record IsFaultTold (tells : Bool) (why : Fault) (before after : SinkSeen) (outcome : Outcome) : Type 0 where
  pub fault_is : outcome.fault ≡ Some why
  pub refuses : Refuses tells why outcome.status outcome.report before after

-- one of the two, by the result
abbrev pub TellsResult : {T E : Type 0} → Bool → (T → ℕ → Option Fault → SinkSeen → SinkSeen → Type 0) → (E → Fault) → Result T E → SinkSeen → SinkSeen → Outcome → Type 0
TellsResult tells Told told_as (Ok found) before after outcome = IsFoundTold (Told found) before after outcome
TellsResult tells Told told_as (Err why) before after outcome = IsFaultTold tells (told_as why) before after outcome

-- how the command ends: its work had a result, which was told; and the script wasn't looked at
pub record EndsBy {T E : Type 0} (Works : Seen → Seen → Result T E → Type 0) (TellsIt : Result T E → SinkSeen → SinkSeen → Outcome → Type 0) (before after : Outside) (outcome : Outcome) : Type 0 where
  pub result : Result T E
  pub works : Works before.device after.device result
  pub ends : TellsIt result before.sink after.sink outcome
  pub source : after.source ≡ before.source
