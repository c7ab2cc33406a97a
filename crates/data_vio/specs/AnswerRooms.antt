-- Where the bytes of an answer stand: in a box of its own.
use Rattle.std.specs.Prelude.{ℕ, ◌+◌, ◌≤◌, List, Option, None, Some}
use Rattle.blk_base.specs.declared.request.Answer.{Answer}
use Rattle.blk_base.specs.declared.request.Answer.TheVariants as reply

-- how many blocks an answer has
abbrev pub gives_bytes : Answer → ℕ
gives_bytes (reply.Bytes bytes) = 1
gives_bytes other = 0

-- and one that isn't known yet
abbrev pub blocks_of : Option Answer → ℕ
blocks_of None = 0
blocks_of (Some answer) = gives_bytes answer

-- how many boxes a room is
abbrev pub rooms : Option (List ℕ) → ℕ
rooms None = 0
rooms (Some room) = 1

-- there is a room for the bytes of an answer, or they have one
abbrev pub HasRoom : Option (List ℕ) → Option Answer → Type 0
HasRoom room answer = 1 ≤ rooms room + blocks_of answer
