use Rattle.std.proofs.Common.{subst, arith, IfSome}
use Rattle.slab_journal.specs.contracts.journal.SlabJournal.{the_view}
use Rattle.slab_journal.specs.Slab.{Slab}
use Rattle.slab_journal.specs.Unsettled.{IsLowPoint}
use Rattle.slab_journal.proofs.LowLaws.{low_filling_as, sealed_covered}
use Rattle.slab_journal.proofs.journal.SlabJournal.low_point.Goals as goal
use Rattle.slab_journal.proofs.journal.SlabJournal.low_point.Goals.{then-self+in_default, else-self}

pub returns-clause-some : goal.returns-clause-some
returns-clause-some c =
    let log = the_view c.self.inside in
    subst (λ (l : Slab). IfSome c.first_uncovered-2.result (IsLowPoint l)) c.self.view_is
    (low_filling_as log c.as_slice.result.now c.deref-2.result.now c.first_uncovered-2.result c.as_slice.ensures.value c.deref-2.ensures.value (elim c.if-self.branch [
      | then-self+in_default w ↦ λ writing.
          sealed_covered log w.index.result.now w.as_slice-sealed.result.now w.deref.result.now w.from.result c.self.invariant w.as_slice-sealed.ensures.value w.from.ensures w.index.ensures w.deref.ensures.value w.in_default.ensures.none
      | else-self w ↦ λ writing. absurd (omega (arith, w.if-self.false, writing))
    ]) c.first_uncovered-2.ensures.some)
