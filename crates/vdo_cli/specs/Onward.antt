-- What a run leaves of its device for the next one.
use Rattle.std.specs.Prelude.{ℕ, ◌≡◌, ◌++◌, true, false, Bool, IsTrue, List, [], ◌∷◌, length}
use Rattle.std.specs.List.{AllByRecursion}
use Rattle.blk_base.specs.declared.geometry.Geometry.{Geometry}
use Rattle.disk_model.specs.declared.call.Call.{Call}
use Rattle.disk_model.specs.declared.call.Call.TheVariants.{Read, Write, Flush}
use Rattle.disk_model.specs.Images.{IsImage}
use Rattle.disk_model.specs.Log.{Blocks}
use Rattle.disk_model.specs.Seen.{Seen, Stays}
use Rattle.disk_model.specs.Trust.{Trust}
use Rattle.core_stops.specs.Sequences.{CanBegin}
use Rattle.vdo_cli.specs.Flushes.{Settles}

-- a device went on: its opening blocks and its size are the same, and its log is longer
pub record GoesOn (tells : Bool) (before after : Seen) : Type 0 where
  pub stays : Stays before after
  pub calls : IsTrue tells → (calls : List Call) × (after.log ≡ calls ++ before.log)

-- a device was just made of these blocks, and no call was made yet
abbrev pub IsJustMade : Blocks → Seen → Type 0
IsJustMade image seen = (seen.opening ≡ image) × (seen.log ≡ [])

-- A call may begin on a device that tells and is honest: each image that a stop may leave now is one on which a run may begin,
-- with so many sequences left, and all are of these sizes; and a flush would leave this one.
pub record MayBegin (trust : Trust) (left : ℕ) (now : Seen) : Type 0 where
  pub geometry : Geometry
  pub each : (image : Blocks) → IsImage now.opening now.log image → (can : CanBegin left image) × (can.sound.head.geometry ≡ geometry)
  pub image : Blocks
  pub stands : IsImage now.opening (Flush true ∷ now.log) image
  pub settles : Settles trust now image

-- What the power's end leaves to the next call: whatever a stop may have left at a moment since, a call may begin on a device that
-- is made of it.
abbrev pub LeavesRunnable : Trust → ℕ → Seen → Seen → Type 0
LeavesRunnable trust left before now =
    (later prefix : List Call) → now.log ≡ later ++ (prefix ++ before.log) → (image : Blocks) → IsImage before.opening (prefix ++ before.log) image
    → CanBegin left image × ((made : Seen) → IsJustMade image made → MayBegin trust left made)

-- a call that is no write, or one of a whole block that succeeded
abbrev pub HasLanded : Call → Type 0
HasLanded (Write at bytes true) = length bytes ≡ 4096
HasLanded (Write at bytes false) = ⊥
HasLanded (Read at bytes ok) = Unit {0}
HasLanded (Flush ok) = Unit {0}

-- What the end of a program leaves to the next call on the same device, of which nothing is settled by it: at each moment since,
-- if each write landed, a call may begin.
abbrev pub LeavesReady : Trust → ℕ → Seen → Seen → Type 0
LeavesReady trust left before now =
    (later prefix : List Call) → now.log ≡ later ++ (prefix ++ before.log) → AllByRecursion HasLanded prefix
    → (then : Seen) → then.opening ≡ before.opening → then.log ≡ prefix ++ before.log → MayBegin trust left then
