-- A small run of two streams over two logical zones: the rows beside this file speak of it, and change it in one point.
use Rattle.std.proofs.Common.{ℕ, ◌≡◌, ◌+◌, true, false, zero, suc, List, [], ◌∷◌, ◌++◌, IsSome, ap, arith}
use Rattle.blk_base.specs.Sectors.{sector, filled_block as block}
use Rattle.blk_base.specs.declared.request.Answer.TheVariants as reply
use Rattle.blk_base.specs.declared.request.Request.TheVariants as request
use Rattle.blk_base.specs.declared.request.Writer.{Writer}
use Rattle.blk_base.proofs.SectorLaws.{filled_size, sectors_tell}
use Rattle.blk_base.specs.Forms.{lba as address}
use Rattle.disk_model.specs.declared.call.Call.{Call}
use Rattle.disk_model.specs.declared.call.Call.TheVariants.{Write, Flush}
use Rattle.vdo_model.specs.declared.report.DeskLine.{DeskLine}
use Rattle.vdo_model.specs.declared.report.DeskLine.TheVariants.{Begin, Answer}
use Rattle.vdo_model.specs.declared.report.FlushMark.{FlushMark}
use Rattle.vdo_model.specs.declared.report.HistoryEntry.{HistoryEntry}
use Rattle.vdo_model.specs.declared.report.Mark.{Mark}
use Rattle.vdo_model.specs.declared.report.Mark.TheVariants.{Settled}
use Rattle.vdo_model.specs.declared.report.Placed.{Placed}
use Rattle.vdo_model.specs.FlushMarks.{Moment, Desk, Device}
use Rattle.vdo_model.specs.Scripts.{Script, request_at}
use Rattle.vdo_model.specs.Places.{placed}

-- Short names.

-- the requests of stream 0 are those of a, and the requests of stream 1 those of b
abbrev pub of_a : ℕ → Writer
of_a n = record { stream = 0; number = n }

abbrev pub of_b : ℕ → Writer
of_b n = record { stream = 1; number = n }

-- what an address has before the run
abbrev pub openings : ℕ → List ℕ
openings a = block (a + 10)

-- the mark of a's flush, when so many calls had succeeded
abbrev pub mark : ℕ → FlushMark
mark n = record { request = of_a 1; calls = n }

-- The script: a writes address 1, flushes, and writes it again; b writes address 812, reads address 1, and flushes.
abbrev pub script : Script
script =
    (request.Write (address 1) (block 1) false ∷ request.Flush ∷ request.Write (address 1) (block 2) false ∷ [])
    ∷ (request.Write (address 812) (block 3) false ∷ request.Read (address 1) ∷ request.Flush ∷ [])
    ∷ []

-- What became of it, the newest line first. In the first six lines a has one request under way at a time, then b has two.
abbrev pub first_lines : List DeskLine
first_lines =
    Begin (of_b 1)
    ∷ Answer (of_a 1) reply.Ok
    ∷ Begin (of_b 0)
    ∷ Begin (of_a 1)
    ∷ Answer (of_a 0) reply.Ok
    ∷ Begin (of_a 0)
    ∷ []

abbrev pub unfinished : List DeskLine
unfinished =
    Begin (of_b 2)
    ∷ Answer (of_a 2) reply.Ok
    ∷ Answer (of_b 0) reply.Ok
    ∷ Answer (of_b 1) (reply.Bytes (block 1))
    ∷ Begin (of_a 2)
    ∷ first_lines

abbrev pub desk : List DeskLine
desk = Answer (of_b 2) reply.Ok ∷ unfinished

-- The same, where the second write of a finds no room.
abbrev pub full_lines : List DeskLine
full_lines = Answer (of_a 2) reply.Full ∷ Begin (of_a 2) ∷ first_lines

-- The places: address 1 is in zone 0, address 812 in zone 1.
abbrev pub first_places : List Placed
first_places = placed (of_b 0) 1 0 ∷ placed (of_a 0) 0 0 ∷ []

abbrev pub places : List Placed
places = placed (of_a 2) 0 2 ∷ placed (of_b 1) 0 1 ∷ first_places

-- The histories of both addresses.
abbrev pub entry : ℕ → Writer → Mark → HistoryEntry
entry a w mark = record { at = address a; request = w; mark = mark }

abbrev pub histories : List HistoryEntry
histories = entry 1 (of_a 2) Settled ∷ entry 812 (of_b 0) Settled ∷ entry 1 (of_a 0) Settled ∷ []

-- The device: its block 0 takes address 1, its block 1 address 812.
abbrev pub writes : ℕ → List ℕ → Call
writes b bytes = Write (record { 0 = b }) bytes true

-- What happened on the desk and on the device: each flush is a flush of the device.
abbrev pub before_flush : List Moment
before_flush =
    Desk (Begin (of_a 1))
    ∷ Desk (Answer (of_a 0) reply.Ok)
    ∷ Device (writes 0 (block 1))
    ∷ Desk (Begin (of_a 0))
    ∷ []

abbrev pub first_moments : List Moment
first_moments = Device (Flush true) ∷ before_flush

abbrev pub later_moments : List Moment
later_moments =
    Desk (Begin (of_b 2))
    ∷ Desk (Answer (of_a 2) reply.Ok)
    ∷ Desk (Answer (of_b 0) reply.Ok)
    ∷ Device (writes 0 (block 2))
    ∷ Device (writes 1 (block 3))
    ∷ Desk (Answer (of_b 1) (reply.Bytes (block 1)))
    ∷ Desk (Begin (of_a 2))
    ∷ Desk (Begin (of_b 1))
    ∷ Desk (Answer (of_a 1) reply.Ok)
    ∷ Desk (Begin (of_b 0))
    ∷ []

abbrev pub moments : List Moment
moments = Desk (Answer (of_b 2) reply.Ok) ∷ Device (Flush true) ∷ (later_moments ++ first_moments)

abbrev pub calls : List Call
calls = Flush true ∷ writes 0 (block 2) ∷ writes 1 (block 3) ∷ Flush true ∷ writes 0 (block 1) ∷ []

-- The marks: the flush of a is the second call that succeeded, that of b the fifth.
abbrev pub mark_a : FlushMark
mark_a = record { request = of_a 1; calls = 2 }

abbrev pub mark_b : FlushMark
mark_b = record { request = of_b 2; calls = 5 }

abbrev pub marks : List FlushMark
marks = mark_b ∷ mark_a ∷ []

-- Blocks of different bytes differ, already in their first sectors.

pub blocks_tell : (a b : ℕ) → block a ≡ block b → a ≡ b
blocks_tell a b same = sectors_tell a b (ap (sector 0) same)

-- A request of b is none of a.
pub b_is_not_a : (m n : ℕ) → of_b m ≡ of_a n → ⊥
b_is_not_a m n same = let streams = ap (λ (w : Writer). w.stream) same in omega (arith, streams)

-- What holds of each of the six requests holds of every request of the script.
pub each_request : (P : Writer → Type 0)
    → P (of_a 0) → P (of_a 1) → P (of_a 2) → P (of_b 0) → P (of_b 1) → P (of_b 2)
    → (w : Writer) → IsSome (request_at script w) → P w
each_request P a0 a1 a2 b0 b1 b2 w is = of_numbers w.stream w.number is
  where
    of_numbers : (stream number : ℕ) → IsSome (request_at script (record { stream = stream; number = number })) → P (record { stream = stream; number = number })
    of_numbers zero zero is = a0
    of_numbers zero (suc zero) is = a1
    of_numbers zero (suc (suc zero)) is = a2
    of_numbers zero (suc (suc (suc n))) is = absurd cc
    of_numbers (suc zero) zero is = b0
    of_numbers (suc zero) (suc zero) is = b1
    of_numbers (suc zero) (suc (suc zero)) is = b2
    of_numbers (suc zero) (suc (suc (suc n))) is = absurd cc
    of_numbers (suc (suc s)) n is = absurd cc
