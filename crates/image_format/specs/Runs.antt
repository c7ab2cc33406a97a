-- Calls that were made of a device, all or up to one that failed.
use Rattle.std.specs.Prelude.{◌≡◌, Bool, IsTrue, false, List, ◌∷◌, ◌++◌, Result, Ok, Err}
use Rattle.disk_model.specs.declared.call.Call.{Call}
use Rattle.disk_model.specs.declared.call.Call.TheVariants.{Read, Write, Flush}
use Rattle.disk_model.specs.declared.call.Failed.{Failed}
use Rattle.disk_model.specs.Causes.{Rose}
use Rattle.disk_model.specs.Seen.{Seen, Stays, Later}
use Rattle.disk_model.specs.LogSteps.{FailedInLog}

-- the call as it stands in the log where it failed
abbrev pub as_failed : Call → Call
as_failed (Read at bytes _) = Read at bytes false
as_failed (Write at bytes _) = Write at bytes false
as_failed (Flush _) = Flush false

-- these calls were made since, and all succeeded
pub record WereMade (tells : Bool) (before now : Seen) (calls : List Call) : Type 0 where
  pub stays : Stays before now
  pub later : Later before now
  pub logged : IsTrue tells → now.log ≡ calls ++ before.log

-- One of these calls failed, and those before it were made. The failed one stands in the log, or found no memory for it.
pub record OneFailed (tells : Bool) (before now : Seen) (calls : List Call) : Type 0 where
  pub stays : Stays before now
  pub later : Later before now
  pub rose : Rose before.faults now.faults
  pub newer : List Call
  pub call : Call
  pub done : List Call
  pub parts : calls ≡ newer ++ (call ∷ done)
  pub logged : IsTrue tells → FailedInLog (done ++ before.log) now.log (as_failed call) (Rose before.unkept now.unkept)

-- what a function that makes these calls answers
abbrev pub Makes : Bool → Seen → Seen → List Call → Result (Unit {0}) Failed → Type 0
Makes tells before now calls (Ok _) = WereMade tells before now calls
Makes tells before now calls (Err _) = OneFailed tells before now calls
