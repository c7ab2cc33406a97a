-- Which request the desk begins next: rows that are taken, and for each clause one that it alone refuses.
use Rattle.std.proofs.Common.{ℕ, zero, suc, ◌≤◌, ◌<◌, ◌≡◌, List, [], ◌∷◌, refl, ap, arith}
use Rattle.blk_base.specs.declared.request.Writer.{Writer}
use Rattle.vdo_model.specs.DeskLog.{IsNextLine}
use Rattle.vdo_model.specs.declared.report.DeskLine.{DeskLine}
use Rattle.vdo_model.specs.declared.report.DeskLine.TheVariants.{Begin}
use Rattle.core_model.specs.DeskData.{Desk}
use Rattle.core_model.specs.DeskRules.{BeginsNext, DeskBegins}
use Rattle.core_model.specs.Trace.{Says}
use Rattle.data_vio.specs.Vios.{Post}
use Rattle.core_model.proofs.WorkedTraces.{script, first, reader, second, other, sizes}

-- a desk with this log
abbrev with_log : List DeskLine → Desk
with_log log = record { requests = script; log = log; marks = []; receipts = []; notices = 0; parked = [] }

-- a stream of the script, at a depth of 2
abbrev MayBegin : List DeskLine → Writer → Type 0
MayBegin log w = IsNextLine 2 script (Begin w) log

-- two requests of stream 0 are under way, and one of stream 1, or two
abbrev pub one_busy : List DeskLine
one_busy = Begin second ∷ Begin reader ∷ Begin first ∷ []

abbrev pub two_busy : List DeskLine
two_busy = Begin other ∷ one_busy

-- so these streams begin none
pub past_one : (w : Writer) → MayBegin one_busy w → 1 ≤ w.stream
past_one w may = by w.stream w.number may
  where
    by : (k n : ℕ) → MayBegin one_busy (record { stream = k; number = n }) → 1 ≤ k
    by zero n may = let fewer : 2 < 2 = may.2 in absurd (omega (arith, fewer))
    by (suc k) n may = omega arith

pub past_two : (w : Writer) → MayBegin two_busy w → 2 ≤ w.stream
past_two w may = by w.stream w.number may
  where
    by : (k n : ℕ) → MayBegin two_busy (record { stream = k; number = n }) → 2 ≤ k
    by zero n may = let fewer : 2 < 2 = may.2 in absurd (omega (arith, fewer))
    by (suc zero) n may = let fewer : 2 < 2 = may.2 in absurd (omega (arith, fewer))
    by (suc (suc k)) n may = omega arith

-- (begins_next): the first request of stream 0, and one of stream 1 where stream 0 has as many under way as may be
lowest_first : BeginsNext 2 (with_log []) first
lowest_first = record { may = (refl, refl, omega arith); lowest = λ w may. omega arith }

higher_later : BeginsNext 2 (with_log one_busy) other
higher_later = record { may = (refl, refl, omega arith); lowest = past_one }

-- `may`: not the second request of a stream before its first
second_later : BeginsNext 2 (with_log []) reader → ⊥
second_later next = let number : 1 ≡ 0 = next.may.0 in absurd (omega (arith, number))

-- `lowest`: not a request of stream 1 while stream 0 may begin one
may_itself : MayBegin [] second
may_itself = (refl, refl, omega arith)

lower_waits : BeginsNext 2 (with_log []) second → ⊥
lower_waits next = let lower : 1 ≤ 0 = next.lowest first (refl, refl, omega arith) in absurd (omega (arith, lower))

-- so no act of the desk begins it
higher_first : (new : Desk) (posts : List Post) → DeskBegins sizes (with_log []) new (Says (Begin second) ∷ []) posts → ⊥
higher_first new posts (DeskBegins.answers w r v a next asked served once n made q) = absurd cc
higher_first new posts (DeskBegins.sends w r v next asked served once n made q) =
    let same : second ≡ w = cc in
    let lower = next.lowest first (refl, refl, omega arith) in
    absurd (omega (arith, lower, ap (λ (v : Writer). v.stream) same))
