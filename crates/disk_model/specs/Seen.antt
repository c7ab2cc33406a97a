-- What contracts see of a device at a moment.
use Rattle.std.specs.Prelude.{ℕ, ◌≡◌, ◌≤◌, List}
use Rattle.disk_model.specs.declared.call.Call.{Call}
use Rattle.disk_model.specs.Log.{Blocks}

-- the blocks that it had when its log began, how many blocks it has, the calls made since, the newest first, how often a
-- call failed, and how often one found no memory for its place in the log
pub record Seen : Type 0 where
  pub opening : Blocks
  pub size : ℕ
  pub log : List Call
  pub faults : ℕ
  pub unkept : ℕ

-- what no call changes
pub record Stays (before after : Seen) : Type 0 where
  pub opening : after.opening ≡ before.opening
  pub size : after.size ≡ before.size

-- counts never fall
pub record Later (before after : Seen) : Type 0 where
  pub faults : before.faults ≤ after.faults
  pub unkept : before.unkept ≤ after.unkept
