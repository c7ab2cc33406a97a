-- The log of a device: the calls made, the newest first.
use Rattle.std.specs.Prelude.{ℕ, ◌≡◌, ◌≢◌, ◌⊎◌, Bool, true, false, if◌then◌else◌, ◌==◌, List, [], ◌∷◌, get_or}
use Rattle.blk_base.specs.Sectors.{zero_block}
use Rattle.disk_model.specs.declared.call.Call.{Call}
use Rattle.disk_model.specs.declared.call.Call.TheVariants.{Read, Write, Flush}

-- The blocks that the device had when its log began.
abbrev pub Blocks : Type 0
Blocks = List (List ℕ)

abbrev pub block_at : Blocks → ℕ → List ℕ
block_at blocks at = get_or blocks at zero_block

-- What may stand in a block once all these calls are flushed: what the last successful write to it wrote
-- (or what was there when the log began), and what the failed writes since then wrote.
abbrev pub settled : Blocks → List Call → ℕ → List (List ℕ)
settled opening [] b = block_at opening b ∷ []
settled opening (Read _ _ _ ∷ older) b = settled opening older b
settled opening (Flush _ ∷ older) b = settled opening older b
settled opening (Write at bytes true ∷ older) b = if at.0 == b then bytes ∷ [] else settled opening older b
settled opening (Write at bytes false ∷ older) b = if at.0 == b then bytes ∷ settled opening older b else settled opening older b

-- What a stop after these calls may leave in a block: what was settled at the last successful flush (or what was
-- there when the log began), and what any write since then wrote, failed or not.
abbrev pub contents : Blocks → List Call → ℕ → List (List ℕ)
contents opening [] b = block_at opening b ∷ []
contents opening (Read _ _ _ ∷ older) b = contents opening older b
contents opening (Flush true ∷ older) b = settled opening older b
contents opening (Flush false ∷ older) b = contents opening older b
contents opening (Write at bytes _ ∷ older) b = if at.0 == b then bytes ∷ contents opening older b else contents opening older b

-- whether a call succeeded
abbrev pub is_ok : Call → Bool
is_ok (Read at bytes ok) = ok
is_ok (Write at bytes ok) = ok
is_ok (Flush ok) = ok

-- a call that writes no block of this number
abbrev pub Misses : Call → ℕ → Type 0
Misses (Read _ _ _) b = Unit {0}
Misses (Write at _ _) b = at.0 ≢ b
Misses (Flush _) b = Unit {0}

-- one of these calls writes a block
abbrev pub IsWritten : List Call → ℕ → Type 0
IsWritten [] b = ⊥
IsWritten (Write at bytes ok ∷ older) b = (at.0 ≡ b) ⊎ IsWritten older b
IsWritten (Read _ _ _ ∷ older) b = IsWritten older b
IsWritten (Flush _ ∷ older) b = IsWritten older b
