-- What a gate of flushes knows.
use Rattle.std.specs.Prelude.{ℕ, ◌≡◌, ◌<◌, ◌+◌, ◌^◌, List, [], ◌∷◌, length, slice_index}
use Rattle.flush_gate.specs.declared.waiters.Waiting.{Waiting}

-- `under_way` has the number of writes under way for each generation from 0 to the one of now; the flushes wait in order
pub record Flushes : Type 0 where
  pub room : ℕ
  pub under_way : List ℕ
  pub waiting : List Waiting

-- nothing was answered yet
abbrev pub opening : ℕ → Flushes
opening room = record { room = room; under_way = 0 ∷ []; waiting = [] }

-- there is room for one more flush, and a number for its generation
pub record HasRoom (gate : Flushes) : Type 0 where
  pub fewer : length gate.waiting < gate.room
  pub number : length gate.under_way < 2 ^ 64

-- no write of a generation before this one is under way
abbrev pub AreOlderDone : Flushes → ℕ → Type 0
AreOlderDone gate generation = (older : ℕ) → older < generation → slice_index gate.under_way older ≡ 0

-- the oldest flush, if there is one, has an older write under way
abbrev pub OldestWaits : Flushes → Type 0
OldestWaits gate = (oldest : Waiting) (rest : List Waiting) → gate.waiting ≡ oldest ∷ rest → ¬ AreOlderDone gate oldest.generation

-- this flush was the oldest, no older write is under way, and it has left
pub record Leaves (old new : Flushes) (flush : Waiting) : Type 0 where
  pub oldest : old.waiting ≡ flush ∷ new.waiting
  pub older_done : AreOlderDone old flush.generation
  pub kept : new ≡ record old { waiting = new.waiting }

-- the flushes have the generations from this one on
abbrev pub AreFrom : ℕ → List Waiting → Type 0
AreFrom generation [] = Unit {0}
AreFrom generation (flush ∷ flushes) = (flush.generation ≡ generation) × AreFrom (generation + 1) flushes
