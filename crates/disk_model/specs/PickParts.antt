-- Parts of a picked image, as far as they are made.
use Rattle.std.specs.Prelude.{ℕ, suc, ◌≡◌, ◌+◌, ◌<◌, ◌≤◌, Bool, true, false, List, [], ◌∷◌, ◌++◌, length, take, drop, get_or}
use Rattle.disk_model.specs.Numbers.{state_after}
use Rattle.disk_model.specs.declared.call.Call.{Call}
use Rattle.disk_model.specs.declared.call.Call.TheVariants.{Read, Write, Flush}
use Rattle.blk_base.specs.Sectors.{sector}
use Rattle.disk_model.specs.Log.{Blocks, IsWritten, block_at}
use Rattle.disk_model.specs.Picks.{choice, content_of, numbers_before, pending, written}

-- the calls behind the last successful flush
abbrev pub recent : List Call → List Call
recent [] = []
recent (Read at bytes ok ∷ older) = Read at bytes ok ∷ recent older
recent (Flush true ∷ older) = []
recent (Flush false ∷ older) = Flush false ∷ recent older
recent (Write at bytes ok ∷ older) = Write at bytes ok ∷ recent older

-- the calls up to the last successful flush
abbrev pub lasting : List Call → List Call
lasting [] = []
lasting (Read _ _ _ ∷ older) = lasting older
lasting (Flush true ∷ older) = Flush true ∷ older
lasting (Flush false ∷ older) = lasting older
lasting (Write _ _ _ ∷ older) = lasting older

-- the blocks as the successful writes left them
pub record AreWritten (opening : Blocks) (log : List Call) (blocks : Blocks) : Type 0 where
  pub size : length blocks ≡ length opening
  pub writes : (b : ℕ) → b < length opening → block_at blocks b ≡ written (block_at opening b) log b

-- each block that one of these calls writes is marked
abbrev pub AreMarked : List Call → List Bool → Type 0
AreMarked log marks = (b : ℕ) → b < length marks → IsWritten log b → get_or marks b false ≡ true

-- after these calls a block has this content of a number, the successful writes gave this, and so many are pending
pub record Reached (before : List ℕ) (log : List Call) (b k : ℕ) (content given : List ℕ) (count : ℕ) : Type 0 where
  pub content_is : content ≡ content_of before log b k
  pub given_is : given ≡ written before log b
  pub count_is : count ≡ pending log b

-- the 512 bytes from a place on are those of another list
abbrev pub copied : ℕ → List ℕ → List ℕ → List ℕ
copied start into from = take start into ++ (take 512 (drop start from) ++ drop (start + 512) into)

-- the blocks of the image that a number picks, of which so many are made of what they were before, and the state of the row
-- of numbers behind them
pub record IsPickedUpTo (before : Blocks) (log : List Call) (number count : ℕ) (image : Blocks) (state : ℕ) : Type 0 where
  pub size : length image ≡ length before
  pub state_is : state ≡ state_after number (numbers_before log count)
  pub whole : (b : ℕ) → b < count → length (block_at image b) ≡ 4096
  pub sectors : (b i : ℕ) → b < count → i < 8
      → sector i (block_at image b) ≡ sector i (content_of (block_at before b) log b (choice number (pending log b) (state_after number (suc (numbers_before log b + i)))))
  pub rest : (b : ℕ) → count ≤ b → b < length before → block_at image b ≡ block_at before b
