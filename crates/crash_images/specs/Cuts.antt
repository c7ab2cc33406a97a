-- A device in memory that is cut off behind its first calls.
use Rattle.std.specs.Prelude.{ℕ, ◌≡◌, nat_le, nat_lt, not, if◌then◌else◌, List, [], ◌∷◌, length}
use Rattle.disk_model.specs.declared.call.Call.{Call}
use Rattle.disk_model.specs.declared.fuse.Fuse.TheVariants.{Passes}
use Rattle.disk_model.specs.Fuses.{burnt_all}
use Rattle.disk_model.specs.Log.{is_ok}
use Rattle.disk_model.specs.Memory.{Memory}
use Rattle.command_text.specs.declared.crashes.CrashStop.{CrashStop}
use Rattle.command_text.specs.declared.crashes.CrashStop.TheVariants.{Stopped, Ended}

-- what a contract sees of it: the device, and how many calls go on
pub record Cut : Type 0 where
  pub disk : Memory
  pub passes : ℕ

-- of these calls, the newest first, exactly those succeeded before which fewer than so many stood
abbrev pub AreCutOff : ℕ → List Call → Type 0
AreCutOff passes [] = Unit {0}
AreCutOff passes (call ∷ older) = (is_ok call ≡ not (nat_le passes (length older))) × AreCutOff passes older

-- the logs that these calls left, each its own, the newest first
abbrev pub logs_of : List Call → List (List Call)
logs_of [] = []
logs_of (call ∷ older) = (call ∷ older) ∷ logs_of older

-- the log shows each call, exactly those behind the first so many failed, and the fuse is what they left of it
pub record IsCutOff (passes : ℕ) (disk : Memory) : Type 0 where
  pub calls : AreCutOff passes disk.log
  pub fuse : disk.fuse ≡ burnt_all (Passes passes) (logs_of disk.log)

-- no fault is planned; and where each call found a place in the log, it is cut off so
pub record IsCutDisk (passes : ℕ) (disk : Memory) : Type 0 where
  pub plan : disk.plan ≡ []
  pub cut : disk.unkept ≡ 0 → IsCutOff passes disk

-- how a run on it ended: a call failed by the fuse, or none did
abbrev pub stop_of : ℕ → List Call → CrashStop
stop_of passes log = if nat_lt passes (length log) then Stopped else Ended
