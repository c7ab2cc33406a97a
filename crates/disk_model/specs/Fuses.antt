-- A fuse: so many calls go by, and then each one fails.
use Rattle.std.specs.Prelude.{◌-◌, ◌==◌, Bool, true, false, if◌then◌else◌, List, [], ◌∷◌, length}
use Rattle.disk_model.specs.declared.call.Call.{Call}
use Rattle.disk_model.specs.declared.fuse.Fuse.{Fuse}
use Rattle.disk_model.specs.declared.fuse.Fuse.TheVariants.{Unset, Passes, Spent}

-- whether the next call fails by it
abbrev pub is_cut : Fuse → Bool
is_cut Unset = false
is_cut (Passes passes) = passes == 0
is_cut (Spent calls) = true

-- The fuse after a call that left this log. The first call that fails by it is the last one that counts: how long the log is
-- with it, if it found a place there.
abbrev pub burnt : Fuse → List Call → Fuse
burnt Unset log = Unset
burnt (Passes passes) log = if passes == 0 then Spent (length log) else Passes (passes - 1)
burnt (Spent calls) log = Spent calls

-- no call failed by it yet
abbrev pub HasNotCut : Fuse → Type 0
HasNotCut Unset = Unit {0}
HasNotCut (Passes passes) = Unit {0}
HasNotCut (Spent calls) = ⊥

-- the fuse after calls that left these logs, the newest first
abbrev pub burnt_all : Fuse → List (List Call) → Fuse
burnt_all fuse [] = fuse
burnt_all fuse (log ∷ older) = burnt (burnt_all fuse older) log
