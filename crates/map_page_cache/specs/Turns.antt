-- In which order the frames came to have clean pages.
use Rattle.std.specs.Prelude.{ℕ, ◌≡◌, ◌+◌, ◌%◌, ◌^◌, Bool, List, map, is_some, replicate, slice_set, Option, None}
use Rattle.std.specs.Bool.{then_some}
use Rattle.dirty_pages.specs.Minima.{IsLeast, key_at}

-- The number of the last turn; and of each frame that has a clean page the turn in which it came to have it.
pub record Turns : Type 0 where
  pub last : ℕ
  pub frames : List (Option ℕ)

-- no frame has a clean page
abbrev pub no_turns : ℕ → Turns
no_turns frames = record { last = 0; frames = replicate frames None }

-- turns are counted by numbers of 64 bits, and begin again behind the last of these
abbrev pub next_turn : ℕ → ℕ
next_turn turn = (turn + 1) % 2 ^ 64

-- the page of a frame is clean from this turn on, or isn't
abbrev pub with_turn : ℕ → Bool → Turns → Turns
with_turn frame is_clean turns = record {
  last = next_turn turns.last;
  frames = slice_set turns.frames frame (then_some is_clean (next_turn turns.last));
}

-- the frame that has had a clean page for the longest time: the one with the least turn
pub record IsLongestClean (turns : Turns) (frame : ℕ) : Type 0 where
  pub turn : ℕ
  pub first : IsLeast turns.frames frame turn

-- no frame has a clean page
abbrev pub NoneClean : Turns → Type 0
NoneClean turns = (frame : ℕ) → key_at turns.frames frame ≡ None

-- a flag for each frame that has a clean page
abbrev pub flags_of : Turns → List Bool
flags_of turns = map (λ (o : Option ℕ). is_some o) turns.frames
