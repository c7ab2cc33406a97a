-- What a run does in which nothing failed.
use Rattle.std.specs.Prelude.{◌≡◌, ◌⊎◌, ◌≤◌, Some, None}
use Rattle.blk_base.specs.declared.request.Answer.{Answer as Reply}
use Rattle.blk_base.specs.declared.request.Answer.TheVariants as reply
use Rattle.blk_base.specs.declared.request.Request.{Request}
use Rattle.blk_base.specs.declared.request.Writer.{Writer}
use Rattle.disk_model.specs.Causes.{Rose}
use Rattle.vdo_model.specs.DeskLog.{answer_of}
use Rattle.vdo_model.specs.Scripts.{Script, request_at}
use Rattle.vdo_cli.specs.declared.fault.Fault.TheVariants as fault
use Rattle.vdo_cli.specs.Outsides.{Outcome, Outside}

-- no count of faults rose: of the device, of the source, or of the sink
pub record NoneRose (before after : Outside) : Type 0 where
  pub device : Rose before.device.faults after.device.faults → ⊥
  pub source : Rose before.source.faults after.source.faults → ⊥
  pub sink : Rose before.sink.faults after.sink.faults → ⊥

-- an answer for which nothing has to fail: it was done, or its address is out of range, or the image has no room for it
abbrev pub NeedsNoFault : Reply → Type 0
NeedsNoFault reply.Ok = Unit {0}
NeedsNoFault (reply.Bytes bytes) = Unit {0}
NeedsNoFault reply.Range = Unit {0}
NeedsNoFault reply.Full = Unit {0}
NeedsNoFault reply.NoSpace = Unit {0}
NeedsNoFault other = ⊥

-- each request of the script has such an answer, and the status says whether there was room for all
pub record IsAllServed (script : Script) (outcome : Outcome) : Type 0 where
  pub ended : outcome.fault ≡ None
  pub status : outcome.status ≤ 1
  pub requests : outcome.report.requests ≡ script
  pub each : (w : Writer) (r : Request) → request_at script w ≡ Some r → (a : Reply) × (answer_of outcome.report.desk w ≡ Some a) × NeedsNoFault a

-- or memory ran out before the first request was served
abbrev pub IsComplete : Script → Outcome → Type 0
IsComplete script outcome = IsAllServed script outcome ⊎ ((outcome.fault ≡ Some fault.Memory) × (outcome.status ≡ 5))
