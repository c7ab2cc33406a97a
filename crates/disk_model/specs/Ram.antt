-- A device in memory that keeps no log.
use Rattle.std.specs.Prelude.{List, [], ◌∷◌, length}
use Rattle.disk_model.specs.declared.call.Call.{Call}
use Rattle.disk_model.specs.Log.{Blocks}
use Rattle.disk_model.specs.Seen.{Seen}

-- what a contract sees of it: its log is for contracts alone
pub record Ram : Type 0 where
  pub opening : Blocks
  pub log : List Call
  pub blocks : Blocks

-- what it shows: none of its calls fails
abbrev pub ram_seen : Ram → Seen
ram_seen ram = record { opening = ram.opening; size = length ram.opening; log = ram.log; faults = 0; unkept = 0 }

-- one whose log begins at these blocks
abbrev pub begun : Blocks → Ram
begun blocks = record { opening = blocks; log = []; blocks = blocks }

-- after this call, which left these blocks
abbrev pub after_call : Ram → Call → Blocks → Ram
after_call ram call blocks = record { opening = ram.opening; log = call ∷ ram.log; blocks = blocks }
