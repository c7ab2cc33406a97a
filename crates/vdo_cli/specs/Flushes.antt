-- A call that changes an image begins with a flush: what an earlier one wrote and didn't flush lasts before anything is read.
use Rattle.std.specs.Prelude.{◌≡◌, Bool, true, false, IsTrue, ◌∷◌}
use Rattle.disk_model.specs.declared.call.Call.TheVariants.{Flush}
use Rattle.disk_model.specs.Causes.{Rose}
use Rattle.disk_model.specs.Log.{Blocks}
use Rattle.disk_model.specs.LogSteps.{FailedInLog}
use Rattle.disk_model.specs.Seen.{Later, Seen, Stays}
use Rattle.disk_model.specs.Trust.{Trust}
use Rattle.rebuild.specs.Recoveries.{IsTold}

-- a flush succeeded, and nothing else was done
pub record IsFlushed (tells : Bool) (before now : Seen) : Type 0 where
  pub stays : Stays before now
  pub later : Later before now
  pub logged : IsTrue tells → now.log ≡ Flush true ∷ before.log

-- it failed, and nothing else was done
pub record IsNotFlushed (tells : Bool) (before now : Seen) : Type 0 where
  pub stays : Stays before now
  pub rose : Rose before.faults now.faults
  pub logged : IsTrue tells → FailedInLog before.log now.log (Flush false) (Rose before.unkept now.unkept)

-- the device was flushed, and this was done from then on
abbrev pub BehindFlush : Bool → Seen → (Seen → Type 0) → Type 0
BehindFlush tells before Done = (flushed : Seen) × IsFlushed tells before flushed × Done flushed

-- the one image, the index aside, that a flush would leave now of a device that tells and is honest
abbrev pub Settles : Trust → Seen → Blocks → Type 0
Settles trust now image = IsTold trust (record now { log = Flush true ∷ now.log }) image
