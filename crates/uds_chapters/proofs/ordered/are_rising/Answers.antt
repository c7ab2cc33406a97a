use Rattle.std.proofs.Common.{◌∙◌, sym, refl, arith}
use Rattle.std.proofs.lemmas.Bool.{false≢true}
use Rattle.uds_chapters.proofs.NameLaws.{rising_from_next}
use Rattle.uds_chapters.proofs.RecordLaws.{below_read}
use Rattle.uds_chapters.proofs.ordered.are_rising.Goals as goal

pub returns-then-not-is_below : goal.returns-then-not-is_below
returns-then-not-is_below c = (
  (λ no. absurd (false≢true no)),
  (λ rising.
      let below = c.is_below.ensures.1 (below_read c.args.records.now _ _ c.index-records-next.result c.index-records-next-in-loop-next.result rising
      (omega arith) (omega arith) c.index-records-next.is c.index-records-next-in-loop-next.is) in
      sym c.if-not-is_below.true ∙ below),
)

pub returns : goal.returns
returns c = (
  (λ yes. rising_from_next c.args.records.now (λ k d lt. c.loop-next.invariant k d (omega arith) lt)),
  (λ rising. refl),
)
