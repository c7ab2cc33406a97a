use Rattle.std.proofs.Common.{◌<◌, ◌+◌, ◌≡◌, length, arith, subst, refl}
use Rattle.recovery_journal.specs.contracts.journal.Journal.{the_view}
use Rattle.recovery_journal.specs.Log.{Log, HandsOut, NoneCommitted}
use Rattle.recovery_journal.proofs.JournalLaws.{hands_out, none_committed, none_left, kept_handed}
use Rattle.recovery_journal.proofs.journal.Journal.next_committed.Goals as goal

pub returns-then-sequence_of-self-clause-none : goal.returns-then-sequence_of-self-clause-none
returns-then-sequence_of-self-clause-none c =
    let size = c.self.inside.entries.ok in
    let inside : c.self.inside.handed < length c.self.inside.entries.items = omega (arith, c.self.invariant.kept.handed) in (
      subst (λ (log : Log). NoneCommitted log) c.self.view_is (none_committed (the_view c.self.inside) c.index-entry.result.now c.self.invariant.kept inside c.index-entry.ensures (omega arith)),
      refl,
    )

pub invariant_of-self : goal.invariant_of-self
invariant_of-self c =
    let size = c.self.inside.entries.ok in
    let inside : c.self.inside.handed < length c.self.inside.entries.items = omega (arith, c.self.invariant.kept.handed) in
    record { kept = kept_handed _ c.index-entry.result.now c.self.invariant.kept inside c.index-entry.ensures; room = c.self.invariant.room }

pub returns-clause-some : goal.returns-clause-some
returns-clause-some c =
    let size = c.self.inside.entries.ok in
    let inside : c.self.inside.handed < length c.self.inside.entries.items = omega (arith, c.self.invariant.kept.handed) in
    subst (λ (log : Log). HandsOut log (record (the_view c.self.inside) { handed = c.self.inside.handed + 1 }) c.index-entry.result.now) c.self.view_is
    (hands_out (the_view c.self.inside) c.index-entry.result.now c.self.invariant.kept inside c.index-entry.ensures (omega arith))

pub returns-then-sequence_of-self-clause-all : goal.returns-then-sequence_of-self-clause-all
returns-then-sequence_of-self-clause-all c all =
    let size = c.self.inside.entries.ok in
    let inside : c.self.inside.handed < length c.self.inside.entries.items = omega (arith, c.self.invariant.kept.handed) in
    absurd (subst (λ (log : Log). log.committed ≡ log.sequence → ⊥) c.self.view_is (none_left (the_view c.self.inside) c.index-entry.result.now c.self.invariant.kept inside c.index-entry.ensures (omega arith)) all)
