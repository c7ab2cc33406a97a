-- How large a session may be, and how long the lists of the desk get: each clause at its limit, and one past it.
use Rattle.std.proofs.Common.{◌≡◌, ℕ, zero, suc, ◌+◌, List, [], ◌∷◌, length, replicate, refl, arith}
use Rattle.std.proofs.lemmas.List.{length-replicate}
use Rattle.blk_base.specs.declared.request.Answer.TheVariants as reply
use Rattle.blk_base.specs.declared.request.Request.{Request}
use Rattle.blk_base.specs.declared.request.Request.TheVariants as request
use Rattle.vdo_model.specs.Scripts.{Script}
use Rattle.vdo_model.specs.declared.report.DeskLine.{DeskLine}
use Rattle.vdo_model.specs.declared.report.DeskLine.TheVariants.{Begin, Answer}
use Rattle.vdo_model.specs.declared.report.FlushMark.{FlushMark}
use Rattle.vdo_model.specs.declared.report.NoSpaceReceipt.{NoSpaceReceipt}
use Rattle.data_vio.specs.declared.items.Phase.TheVariants as phase
use Rattle.data_vio.specs.declared.items.Vio.{Vio}
use Rattle.data_vio.specs.declared.sizes.Sizes.{Sizes}
use Rattle.core_model.specs.DeskData.{Desk}
use Rattle.core_model.specs.DeskLimits.{IsDeskWithin}
use Rattle.core_model.specs.SessionLimits.{asks_read, most_under_way_in, reads_in, IsLimited, requests_in}
use Rattle.core_model.specs.DeskLines.{is_bytes}
use Rattle.model_rows.proofs.sessions.PhaseRows.{writes}
use Rattle.core_model.proofs.WorkedTraces.{first, flush, script, sizes}
use Rattle.plain_laws.specs.Sums.{total}

-- so many logical zones, and so many requests of a stream under way
abbrev sized : (zones depth : ℕ) → Sizes
sized zones depth = record sizes { zones = zones; physical = 1; depth = depth }

-- one stream of so many flushes, and so many empty ones
abbrev flushes : ℕ → List Request
flushes n = replicate n request.Flush

abbrev streams : (requests empty : ℕ) → Script
streams requests empty = flushes requests ∷ replicate empty []

none_of_them : (n : ℕ) → total length (replicate n (flushes 0)) ≡ 0
none_of_them zero = refl
none_of_them (suc n) = omega (arith, none_of_them n)

all_of_them : (requests empty : ℕ) → requests_in (streams requests empty) ≡ requests
all_of_them requests empty = omega (arith, length-replicate requests request.Flush, none_of_them empty)

has_streams : (requests empty : ℕ) → length (streams requests empty) ≡ 1 + empty
has_streams requests empty = omega (arith, length-replicate {A = List Request} empty [])

-- sixteen streams, sixteen requests of each under way, 65,536 requests, and four logical and four physical zones
largest : IsLimited (record (sized 4 16) { physical = 4 }) (streams 65536 15)
largest = record {
  streams = omega (arith, has_streams 65536 15);
  depth = omega arith;
  requests = omega (arith, all_of_them 65536 15);
  zones = omega arith;
  physical = omega arith;
}

-- one more of each
too_many_streams : IsLimited (sized 4 16) (streams 65536 16) → ⊥
too_many_streams is = absurd (omega (arith, is.streams, has_streams 65536 16))

too_deep : IsLimited (sized 4 17) (streams 65536 15) → ⊥
too_deep is = absurd (omega (arith, is.depth))

too_many_requests : IsLimited (sized 4 16) (streams 65537 15) → ⊥
too_many_requests is = absurd (omega (arith, is.requests, all_of_them 65537 15))

too_many_zones : IsLimited (sized 5 16) (streams 65536 15) → ⊥
too_many_zones is = absurd (omega (arith, is.zones))

too_many_physical : IsLimited (record (sized 4 16) { physical = 5 }) (streams 65536 15) → ⊥
too_many_physical is = absurd (omega (arith, is.physical))

-- a desk over the six requests of the script, with so many lines, marks and receipts, so many that wait, and so many notices heard
abbrev line : DeskLine
line = Begin first

abbrev mark : FlushMark
mark = record { request = flush; calls = 1 }

abbrev receipt : NoSpaceReceipt
receipt = record { request = first; step = 0 }

abbrev waits : Vio
waits = writes phase.Reply

abbrev desk : (lines marks receipts parked notices : ℕ) → Desk
desk lines marks receipts parked notices = record { requests = script; log = replicate lines line; marks = replicate marks mark; receipts = replicate receipts receipt; notices = notices; parked = replicate parked waits }

-- twelve lines, six marks, six receipts, as many requests as are under way in all, and a notice of each of nine zones
fullest : IsDeskWithin (desk 12 6 6 526 9)
fullest = record {
  log = omega (arith, length-replicate 12 line);
  bytes = omega arith;
  marks = omega (arith, length-replicate 6 mark);
  receipts = omega (arith, length-replicate 6 receipt);
  parked = omega (arith, length-replicate 526 waits);
  notices = omega arith;
}

-- one more of each
too_many_lines : IsDeskWithin (desk 13 6 6 526 9) → ⊥
too_many_lines is = absurd (omega (arith, is.log, length-replicate 13 line))

-- most_of_stream, most_under_way_in: sixteen of a stream that has more, all of one that has fewer, none of one that has none
seventeen : most_under_way_in (flushes 18 ∷ flushes 1 ∷ [] ∷ []) ≡ 17
seventeen = refl

all_sixteen : most_under_way_in (flushes 16 ∷ flushes 15 ∷ []) ≡ 31
all_sixteen = refl

-- asks_read, reads_in: the script has two reads; a flush is none
two_reads : reads_in script ≡ 2
two_reads = refl

no_read : asks_read request.Flush ≡ 0
no_read = refl

-- is_bytes: an answer with bytes has a block, a line that begins none; and there is one more than the script has reads
abbrev given : DeskLine
given = Answer first (reply.Bytes [])

one_block : is_bytes given ≡ 1
one_block = refl

begins_none : is_bytes line ≡ 0
begins_none = refl

too_many_blocks : IsDeskWithin (record (desk 0 6 6 526 9) { log = given ∷ given ∷ given ∷ [] }) → ⊥
too_many_blocks is = absurd (omega (arith, is.bytes))

too_many_marks : IsDeskWithin (desk 12 7 6 526 9) → ⊥
too_many_marks is = absurd (omega (arith, is.marks, length-replicate 7 mark))

too_many_receipts : IsDeskWithin (desk 12 6 7 526 9) → ⊥
too_many_receipts is = absurd (omega (arith, is.receipts, length-replicate 7 receipt))

too_many_parked : IsDeskWithin (desk 12 6 6 527 9) → ⊥
too_many_parked is = absurd (omega (arith, is.parked, length-replicate 527 waits))

too_many_notices : IsDeskWithin (desk 12 6 6 526 10) → ⊥
too_many_notices is = absurd (omega (arith, is.notices))
