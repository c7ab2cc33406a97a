-- The calls that a function made, once all succeeded.
use Rattle.std.proofs.Common.{◌≡◌, Bool, IsTrue, List, ◌++◌, Result, Ok, Err, OnOk}
use Rattle.disk_model.specs.declared.call.Call.{Call}
use Rattle.disk_model.specs.declared.call.Failed.{Failed}
use Rattle.disk_model.specs.Seen.{Seen}
use Rattle.image_format.specs.Runs.{Makes}

pub made_all : (tells : Bool) (before now : Seen) (calls : List Call) (result : Result (Unit {0}) Failed) → Makes tells before now calls result
    → OnOk result (IsTrue tells → now.log ≡ calls ++ before.log)
made_all tells before now calls (Ok _) made = made.logged
made_all tells before now calls (Err _) made = tt
