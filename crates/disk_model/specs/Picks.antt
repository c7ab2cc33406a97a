-- The images that a number picks of those that a stop may leave.
use Rattle.std.specs.Prelude.{ℕ, zero, suc, ◌≡◌, ◌<◌, ◌+◌, ◌-◌, ◌%◌, ◌==◌, true, false, if◌then◌else◌, List, [], ◌∷◌, length, drop}
use Rattle.blk_base.specs.Sectors.{sector}
use Rattle.disk_model.specs.declared.call.Call.{Call}
use Rattle.disk_model.specs.declared.call.Call.TheVariants.{Read, Write, Flush}
use Rattle.disk_model.specs.declared.fuse.Fuse.{Fuse}
use Rattle.disk_model.specs.declared.fuse.Fuse.TheVariants.{Unset, Passes, Spent}
use Rattle.disk_model.specs.Log.{Blocks, block_at}
use Rattle.disk_model.specs.Numbers.{number_in, state_after}

-- The calls that a stop leaves something of: of those that failed by a fuse the first alone.
abbrev pub counted_log : Fuse → List Call → List Call
counted_log Unset log = log
counted_log (Passes passes) log = log
counted_log (Spent calls) log = drop (length log - calls) log

-- what the successful writes gave a block that had these bytes before
abbrev pub written : List ℕ → List Call → ℕ → List ℕ
written before [] b = before
written before (Read _ _ _ ∷ older) b = written before older b
written before (Flush _ ∷ older) b = written before older b
written before (Write at bytes true ∷ older) b = if at.0 == b then bytes else written before older b
written before (Write at bytes false ∷ older) b = written before older b

-- how many writes to it there were since the last successful flush, failed or not
abbrev pub pending : List Call → ℕ → ℕ
pending [] b = 0
pending (Read _ _ _ ∷ older) b = pending older b
pending (Flush true ∷ older) b = 0
pending (Flush false ∷ older) b = pending older b
pending (Write at _ _ ∷ older) b = if at.0 == b then pending older b + 1 else pending older b

-- Its content with a number: 0 is the durable one, what the successful writes gave up to the last successful flush; then
-- come those that were written since, the oldest first.
abbrev pub content_of : List ℕ → List Call → ℕ → ℕ → List ℕ
content_of before [] b k = before
content_of before (Read _ _ _ ∷ older) b k = content_of before older b k
content_of before (Flush true ∷ older) b k = written before older b
content_of before (Flush false ∷ older) b k = content_of before older b k
content_of before (Write at bytes _ ∷ older) b k =
    if at.0 == b then (if pending older b + 1 == k then bytes else content_of before older b k) else content_of before older b k

-- how many numbers of the row the sectors of the first blocks take: those of the blocks with such writes
abbrev pub numbers_before : List Call → ℕ → ℕ
numbers_before log zero = 0
numbers_before log (suc b) = if pending log b == 0 then numbers_before log b else 8 + numbers_before log b

-- The content that a number chooses for a sector, at a state of the row: 0 chooses the durable ones, 1 the last writes.
abbrev pub choice : ℕ → ℕ → ℕ → ℕ
choice number writes state = if number == 0 then 0 else (if number == 1 then writes else number_in state % (writes + 1))

-- the image that a number picks
pub record IsPicked (opening : Blocks) (log : List Call) (number : ℕ) (image : Blocks) : Type 0 where
  pub size : length image ≡ length opening
  pub whole : (b : ℕ) → b < length opening → length (block_at image b) ≡ 4096
  pub sectors : (b i : ℕ) → b < length opening → i < 8
      → sector i (block_at image b) ≡ sector i (content_of (block_at opening b) log b (choice number (pending log b) (state_after number (suc (numbers_before log b + i)))))
