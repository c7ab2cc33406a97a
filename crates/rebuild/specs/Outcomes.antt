-- How the recovery of an image ends whose last session wasn't closed.
use Rattle.std.specs.Prelude.{ℕ, ◌≡◌, ◌⊎◌, Bool, List, ◌++◌, length, Result, Ok, Err, IfOk, IfErr, OnErr}
use Rattle.audit.specs.Audits.{AuditWithFails, BothShow}
use Rattle.audit.specs.Reports.{HasNoFault}
use Rattle.blk_base.specs.declared.geometry.Super.{Super as Superblock}
use Rattle.disk_model.specs.declared.call.Call.{Call}
use Rattle.disk_model.specs.declared.call.Failed.{Failed}
use Rattle.disk_model.specs.Seen.{Later, Seen, Stays}
use Rattle.disk_model.specs.Trust.{Trust}
use Rattle.disk_model.specs.Log.{Blocks}
use Rattle.disk_model.specs.Since.{IsUntouched, SinceThen}
use Rattle.image_format.specs.Formats.{LastFailed}
use Rattle.image_layout.specs.Opened.{super_of_image}
use Rattle.image_model.specs.Maps.{Image}
use Rattle.image_model.specs.Sound.{IsSound}
use Rattle.image_model.specs.declared.fault.ImageFault.{ImageFault}
use Rattle.image_model.specs.declared.fault.ImageFault.TheVariants.{Device}
use Rattle.journal_window.specs.Reads.{IsWindowRead, Fails}
use Rattle.journal_window.specs.States.{WindowState}
use Rattle.recovery_laws.specs.Calls.{ArePuts, IsBegun, IsPut, recovery_calls}
use Rattle.recovery_laws.specs.Kept.{AreStopsKept}
use Rattle.recovery_laws.specs.Recoverable.{AreStopsStill, IsRecoverable, recoverable_image}
use Rattle.rebuild.specs.Acts.{AreMade, Grows, IsStart}

-- Of any device.

-- The journal was read, and its window has so many entries; then the map and the counts were, and each image with this
-- window that has what was read has no fault. This is that moment, or a later one of the same device.
pub record HasEntries (trust : Trust) (head : Superblock) (before now : Seen) (count : ℕ) : Type 0 where
  pub middle : Seen
  pub behind : Seen
  pub window : WindowState
  pub read : IsWindowRead trust before middle head window
  pub right : BothShow trust head window middle behind HasNoFault
  pub stays : Stays behind now
  pub later : Later behind now
  pub grows : Grows trust.tells behind now
  pub number : count ≡ length window.entries

-- Why an image isn't recovered whose superblock was read: its journal has no window; or it was read, and then the first
-- fault of the map and the counts was; or the last call failed.
abbrev pub UncleanFails : Trust → Superblock → Seen → Seen → ImageFault → Type 0
UncleanFails trust head before now why =
    Fails trust before now head why
    ⊎ ((middle : Seen) × (window : WindowState) × IsWindowRead trust before middle head window × AuditWithFails trust head window middle now why)
    ⊎ ((why ≡ Device) × LastFailed trust.tells before now)

-- nothing was written, but where a call failed
abbrev pub WritesNothing : Bool → Seen → Seen → ImageFault → Type 0
WritesNothing tells before now why = (why ≡ Device) ⊎ IsUntouched tells before now

-- Of an honest device, at a start.

-- all writes of recovery were made since, and the superblock behind them; whatever a stop leaves before that says the same
abbrev pub IsAllMade : Image → ℕ → Seen → Seen → Type 0
IsAllMade image last first now = (puts : List Call) × ArePuts image puts × (now.log ≡ recovery_calls image last puts ++ first.log)

-- whatever a stop leaves says the same, at each moment since, and no other superblock was written, nor the index
abbrev pub IsKeptSince : (blocks : Blocks) → IsSound blocks → Seen → Seen → Type 0
IsKeptSince blocks sound first now = SinceThen (AreStopsKept blocks sound first.opening first.log) first.log now.log

-- the same of an image that needn't be sound: it can be recovered
abbrev pub IsStillSince : (blocks : Blocks) → IsRecoverable blocks → Seen → Seen → Type 0
IsStillSince blocks is first now = SinceThen (AreStopsStill blocks is first.opening first.log) first.log now.log

-- a part of the calls of recovery was made since
abbrev pub IsBegunSince : Image → ℕ → Seen → Seen → Type 0
IsBegunSince image last first now = SinceThen (IsBegun image last) first.log now.log

abbrev pub Ends : {T E : Type 0} → Image → ℕ → Seen → Seen → Result T E → Type 0
Ends image last first now (Ok _) = IsAllMade image last first now
Ends image last first now (Err _) = IsBegunSince image last first now

-- The whole.

-- What writing all of an image answers: where it fails, its last call failed. From each start on, after reads and where the
-- image has what is needed and this last sequence, it ends so.
pub record WritesAll (trust : Trust) (before now : Seen) (Needs : Image → Type 0) (last : ℕ) (result : Result (Unit {0}) Failed) : Type 0 where
  pub stays : Stays before now
  pub later : Later before now
  pub grows : Grows trust.tells before now
  pub failed : OnErr result (LastFailed trust.tells before now)
  pub ends : (first : Seen) (blocks : Blocks) (start : IsStart trust first blocks) (calls : List Call) → AreMade (IsPut (recoverable_image blocks start.to.is)) first before calls
      → Needs (recoverable_image blocks start.to.is) → start.to.is.last ≡ last → Ends (recoverable_image blocks start.to.is) start.to.is.last first now result

-- what recovering an image answers whose superblock was read and says that its last session wasn't closed
pub record RecoversUnclean (trust : Trust) (head : Superblock) (before now : Seen) (result : Result ℕ ImageFault) : Type 0 where
  pub stays : Stays before now
  pub later : Later before now
  pub grows : Grows trust.tells before now
  pub entries : IfOk result (HasEntries trust head before now)
  pub fails : IfErr result (UncleanFails trust head before now)
  pub nothing : IfErr result (WritesNothing trust.tells before now)
  pub ends : (first : Seen) (blocks : Blocks) (start : IsStart trust first blocks) → IsUntouched trust.tells first before → super_of_image blocks ≡ Ok head
      → Ends (recoverable_image blocks start.to.is) start.to.is.last first now result
