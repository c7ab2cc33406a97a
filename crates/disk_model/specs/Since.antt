-- What was done to a device since a moment.
use Rattle.std.specs.Prelude.{ℕ, ◌≡◌, ◌+◌, ◌<◌, Bool, true, false, IsTrue, List, [], ◌∷◌, ◌++◌, length}
use Rattle.disk_model.specs.declared.call.Call.{Call}
use Rattle.disk_model.specs.declared.call.Call.TheVariants.{Read, Write, Flush}
use Rattle.disk_model.specs.declared.reads.BlocksFault.{BlocksFault}
use Rattle.disk_model.specs.declared.reads.BlocksFault.TheVariants.{Device, Memory}
use Rattle.disk_model.specs.Causes.{Rose}
use Rattle.disk_model.specs.Images.{IsMixOf}
use Rattle.disk_model.specs.Log.{settled}
use Rattle.disk_model.specs.Seen.{Seen, Stays, Later}
use Rattle.disk_model.specs.Trust.{Trust}
use Rattle.disk_model.specs.LogSteps.{FailedInLog}

-- the calls since the log was the first one
abbrev pub SinceThen : (List Call → Type 0) → List Call → List Call → Type 0
SinceThen P first now = (calls : List Call) × (now ≡ calls ++ first) × P calls

-- only reads
abbrev pub OnlyReads : List Call → Type 0
OnlyReads [] = Unit {0}
OnlyReads (Read at bytes ok ∷ older) = OnlyReads older
OnlyReads (Write at bytes ok ∷ older) = ⊥
OnlyReads (Flush ok ∷ older) = ⊥

-- nothing was written since
pub record IsUntouched (tells : Bool) (before now : Seen) : Type 0 where
  pub stays : Stays before now
  pub later : Later before now
  pub reads : IsTrue tells → SinceThen OnlyReads before.log now.log

-- the calls that read these blocks, from this number on; the newest stands first
abbrev pub reads_of : ℕ → List (List ℕ) → List Call
reads_of from [] = []
reads_of from (bytes ∷ older) = Read (record { 0 = from + length older }) bytes true ∷ reads_of from older

-- reads at this moment may give these blocks, from this number on: of an honest device each is a mix of what was settled
abbrev pub AreGiven : Trust → ℕ → Seen → List (List ℕ) → Type 0
AreGiven trust from before [] = Unit {0}
AreGiven trust from before (bytes ∷ older) =
    (length bytes ≡ 4096)
    × (IsTrue trust.tells → IsTrue trust.honest → IsMixOf (settled before.opening before.log (from + length older)) bytes)
    × AreGiven trust from before older

-- These blocks were read since, from this number on, and nothing else was done. The newest stands first.
pub record WereRead (trust : Trust) (from : ℕ) (before now : Seen) (blocks : List (List ℕ)) : Type 0 where
  pub told : IsTrue trust.tells → length before.opening ≡ before.size
  pub stays : Stays before now
  pub later : Later before now
  pub given : AreGiven trust from before blocks
  pub logged : IsTrue trust.tells → now.log ≡ reads_of from blocks ++ before.log

-- These blocks were read since, and then a read of the next one failed: the log has that call, where there was memory for it.
pub record NextFailed (trust : Trust) (from : ℕ) (before now : Seen) (blocks : List (List ℕ)) : Type 0 where
  pub stays : Stays before now
  pub later : Later before now
  pub given : AreGiven trust from before blocks
  pub rose : Rose before.faults now.faults
  pub logged : IsTrue trust.tells → (bytes : List ℕ)
      × FailedInLog (reads_of from blocks ++ before.log) now.log (Read (record { 0 = from + length blocks }) bytes false) (Rose before.unkept now.unkept)

-- some of so many blocks from this number on were read, and then the read of the next one failed
abbrev pub StopsBefore : Trust → ℕ → ℕ → Seen → Seen → Type 0
StopsBefore trust from count before now = (blocks : List (List ℕ)) × (length blocks < count) × NextFailed trust from before now blocks

-- of a fault of the device this is said; of want of memory nothing is
abbrev pub OfDevice : Type 0 → BlocksFault → Type 0
OfDevice says Device = says
OfDevice says Memory = Unit {0}
