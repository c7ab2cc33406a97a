-- What the desk counts of its log: each clause with a case that it accepts, and one that breaks it alone.
use Rattle.std.proofs.Common.{◌≡◌, ℕ, zero, suc, ◌≤◌, List, [], ◌∷◌, length, replicate, get_or, refl, arith}
use Rattle.std.proofs.Math.Dec.{eqb-zero-suc}
use Rattle.blk_base.specs.declared.request.Answer.TheVariants as reply
use Rattle.blk_base.specs.declared.request.Request.TheVariants.{Flush}
use Rattle.vdo_model.specs.DeskLog.{answered, begun}
use Rattle.vdo_model.specs.Scripts.{Script, stream_of}
use Rattle.vdo_model.specs.declared.report.DeskLine.{DeskLine}
use Rattle.vdo_model.specs.declared.report.DeskLine.TheVariants.{Begin, Answer}
use Rattle.core_model.specs.DeskCounts.{AreBegunFrom, CountAnswered, CountBegun}
use Rattle.core_model.proofs.WorkedTraces.{first}

-- a request of stream 0 is begun, and then it is answered
abbrev opened : List DeskLine
opened = Begin first ∷ []

abbrev ended : List DeskLine
ended = Answer first reply.Ok ∷ opened

-- none of so many streams, and one of the first of them
abbrev none : ℕ → List ℕ
none streams = replicate streams 0

abbrev one : List ℕ
one = 1 ∷ none 15

none_of_all : (n i : ℕ) → get_or (none n) i 0 ≡ 0
none_of_all zero i = refl
none_of_all (suc n) zero = refl
none_of_all (suc n) (suc i) = none_of_all n i

one_of_first : (i : ℕ) → get_or one (suc i) 0 ≡ 0
one_of_first i = none_of_all 15 i

-- begun: one, also when it is answered
begun_once : CountBegun one opened
begun_once = (refl, λ stream below. elim stream as (λ n. get_or one n 0 ≡ begun n opened) [ zero ↦ refl | suc i ↦ rw (eqb-zero-suc i) (one_of_first i) ])

still_begun : CountBegun one ended
still_begun = begun_once

-- answered: none while it is under way, and one then
not_yet_answered : CountAnswered (none 16) opened
not_yet_answered = (refl, λ stream below. none_of_all 16 stream)

answered_once : CountAnswered one ended
answered_once = (refl, λ stream below. elim stream as (λ n. get_or one n 0 ≡ answered n ended) [ zero ↦ refl | suc i ↦ rw (eqb-zero-suc i) (one_of_first i) ])

-- a stream too few
short : CountAnswered (none 15) opened → ⊥
short (long, each) = absurd (omega (arith, long))

-- a request that isn't counted
begun_lost : CountBegun (none 16) opened → ⊥
begun_lost (long, each) = absurd (omega (arith, each 0 (omega arith)))

answer_lost : CountAnswered (none 16) ended → ⊥
answer_lost (long, each) = absurd (omega (arith, each 0 (omega arith)))

-- streams that have begun all their requests: stream 0 has one, which it began, and no other stream has any
abbrev alone : Script
alone = (Flush ∷ []) ∷ []

all_begun : AreBegunFrom 0 alone opened
all_begun = λ stream past. elim stream as (λ n. length (stream_of alone n) ≤ begun n opened) [ zero ↦ omega arith | suc i ↦ omega arith ]

-- none before it is begun
none_yet : AreBegunFrom 0 alone [] → ⊥
none_yet all = absurd (omega (arith, all 0 (omega arith)))

-- but each stream behind it
others_begun : AreBegunFrom 1 alone []
others_begun = λ stream past. elim stream as (λ n. 1 ≤ n → length (stream_of alone n) ≤ begun n []) [ zero ↦ (λ one. absurd (omega (arith, one))) | suc i ↦ (λ one. omega arith) ] past
