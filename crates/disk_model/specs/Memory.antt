-- A device in memory.
use Rattle.std.specs.Prelude.{ℕ, ◌≡◌, ◌<◌, ◌^◌, ◌+◌, ◌-◌, ◌⊎◌, min, List, [], ◌∷◌, length, slice_set, Bool, ◌&&◌, ◌||◌, not, true, false, if◌then◌else◌}
use Rattle.disk_model.specs.declared.call.Call.{Call}
use Rattle.disk_model.specs.declared.call.Call.TheVariants.{Read, Write, Flush}
use Rattle.disk_model.specs.declared.faults.CallKind.{CallKind}
use Rattle.disk_model.specs.declared.faults.CallKind.TheVariants.{Read as ReadKind, Write as WriteKind, Flush as FlushKind}
use Rattle.disk_model.specs.declared.faults.FaultAt.{FaultAt}
use Rattle.disk_model.specs.declared.fuse.Fuse.{Fuse}
use Rattle.disk_model.specs.declared.fuse.Fuse.TheVariants.{Unset}
use Rattle.disk_model.specs.Fuses.{is_cut, burnt}
use Rattle.disk_model.specs.Images.{OneOf}
use Rattle.disk_model.specs.Log.{Blocks, block_at, settled}
use Rattle.disk_model.specs.Plans.{named, takes_effect, counted}
use Rattle.disk_model.specs.Seen.{Seen}

-- what a contract sees of it
pub record Memory : Type 0 where
  pub opening : Blocks
  pub log : List Call
  pub blocks : Blocks
  pub plan : List FaultAt
  pub fuse : Fuse
  pub faults : ℕ
  pub unkept : ℕ

-- what a device shows, in memory or not
abbrev pub seen_of : Memory → Seen
seen_of memory = record { opening = memory.opening; size = length memory.opening; log = memory.log; faults = memory.faults; unkept = memory.unkept }

-- a device whose log begins at these blocks
abbrev pub fresh : Blocks → Memory
fresh blocks = record { opening = blocks; log = []; blocks = blocks; plan = []; fuse = Unset; faults = 0; unkept = 0 }

-- one more, in a count that stands still at the last value of its type
abbrev pub one_more : ℕ → ℕ
one_more count = min (count + 1) (2 ^ 64 - 1)

-- the kind of a call
abbrev pub kind_of : Call → CallKind
kind_of (Read _ _ _) = ReadKind
kind_of (Write _ _ _) = WriteKind
kind_of (Flush _) = FlushKind

-- the block of a call; a flush has none
abbrev pub block_of_call : Call → ℕ
block_of_call (Read at _ _) = at.0
block_of_call (Write at _ _) = at.0
block_of_call (Flush _) = 0

-- whether this call is to fail: the fuse is spent, or a planned fault names it
abbrev pub is_to_fail : Memory → Call → Bool
is_to_fail old call = is_cut old.fuse || named old.plan (kind_of call) (block_of_call call)

-- the blocks after a write that is to fail: where the fuse is spent, it has no effect
abbrev pub after_failed_write : Memory → ℕ → List ℕ → Blocks
after_failed_write old at bytes = if not (is_cut old.fuse) && takes_effect old.plan WriteKind at then slice_set old.blocks at bytes else old.blocks

-- the plan after this call
abbrev pub plan_after : Memory → Call → List FaultAt
plan_after old call = counted old.plan (kind_of call) (block_of_call call)

-- after a call that succeeded, and left these blocks
abbrev pub after_success : Memory → Call → Blocks → Memory
after_success old call blocks = record { opening = old.opening; log = call ∷ old.log; blocks = blocks; plan = plan_after old call; fuse = burnt old.fuse (call ∷ old.log); faults = old.faults; unkept = old.unkept }

-- after a call that was to fail, and that left these blocks
abbrev pub after_fault : Memory → Call → Blocks → Memory
after_fault old call blocks = record { opening = old.opening; log = call ∷ old.log; blocks = blocks; plan = plan_after old call; fuse = burnt old.fuse (call ∷ old.log); faults = one_more old.faults; unkept = old.unkept }

-- after a call that found no memory for its place in the log
abbrev pub after_want : Memory → Call → Memory
after_want old call = record { opening = old.opening; log = old.log; blocks = old.blocks; plan = plan_after old call; fuse = burnt old.fuse old.log; faults = one_more old.faults; unkept = one_more old.unkept }

-- a call that succeeded: it wasn't to fail
pub record Succeeds (old new : Memory) (call : Call) (blocks : Blocks) : Type 0 where
  pub passes : is_to_fail old call ≡ false
  pub effect : new ≡ after_success old call blocks

-- a call that failed: it was to fail, or it found no memory for its place in the log
abbrev pub Fails : Memory → Memory → Call → Blocks → Type 0
Fails old new call blocks = ((is_to_fail old call ≡ true) × (new ≡ after_fault old call blocks)) ⊎ (new ≡ after_want old call)

-- the blocks that stand are what the log says
pub record HoldsSettled (opening : Blocks) (log : List Call) (blocks : Blocks) : Type 0 where
  pub size : length blocks ≡ length opening
  pub small : length blocks < 2 ^ 32
  pub honest : (b : ℕ) → b < length blocks → OneOf (λ content. block_at blocks b ≡ content) (settled opening log b)
