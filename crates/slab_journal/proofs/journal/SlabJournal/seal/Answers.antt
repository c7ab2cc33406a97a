use Rattle.std.proofs.Common.{◌%◌, ◌∙◌, inl, inr, ℕ, List, set, ap, refl, sym, subst, arith, rules}
use Rattle.slab_codec.specs.declared.forms.SlabEntry.{SlabEntry}
use Rattle.slab_journal.specs.contracts.journal.SlabJournal.{the_view}
use Rattle.slab_journal.specs.Slab.{Slab, MayOverwrite}
use Rattle.slab_journal.proofs.SlabLaws.{keeps_sealed_as, kept_sealed_as}
use Rattle.slab_journal.proofs.journal.SlabJournal.seal.Goals as goal
use Rattle.slab_journal.proofs.journal.SlabJournal.seal.Goals.{then-is_empty-via-then-is_empty, then-is_empty-via-else-is_empty+then-self, then-is_empty-via-else-is_empty+else-self+then-not-may_overwrite}

pub returns-clause-kept : goal.returns-clause-kept
returns-clause-kept c =
    let may = subst (λ (log : Slab). MayOverwrite log) (sym c.self.view_is) (c.if-not-may_overwrite.ensures.0 refl) in
    keeps_sealed_as (the_view c.self.inside) c.args.self.now c.replace.new.dest _ c.self.view_is c.self.invariant may (c.replace.ensures.after ∙ c.new.ensures)
    (ap (λ (n : ℕ). set c.self.inside.slots.items (c.self.inside.sequence % n) c.replace.result) c.from.ensures
    ∙ ap (λ (es : List SlabEntry). set c.self.inside.slots.items (c.self.inside.sequence % c.self.inside.layout.geometry.slab_journal) es) c.replace.ensures.value)

pub invariant_of-self : goal.invariant_of-self
invariant_of-self c =
    kept_sealed_as (the_view c.self.inside) c.replace.new.dest _ c.self.invariant (c.is_empty.ensures.some c.if-is_empty.false) (omega arith)
    (c.replace.ensures.after ∙ c.new.ensures)
    (ap (λ (n : ℕ). set c.self.inside.slots.items (c.self.inside.sequence % n) c.replace.result) c.from.ensures
    ∙ ap (λ (es : List SlabEntry). set c.self.inside.slots.items (c.self.inside.sequence % c.self.inside.layout.geometry.slab_journal) es) c.replace.ensures.value)

pub returns-clause-some : goal.returns-clause-some
returns-clause-some c = search rules

pub returns-then-is_empty-clause-none : goal.returns-then-is_empty-clause-none
returns-then-is_empty-clause-none c =
    elim c.then-is_empty.branch [
      | then-is_empty-via-then-is_empty w ↦ (
        inl (ap (λ (log : Slab). log.filling) (sym c.self.view_is) ∙ c.is_empty.ensures.none.0 w.if-is_empty.true),
        refl,
      )
      | then-is_empty-via-else-is_empty+then-self w ↦ (inr (inl (omega (arith, w.if-self.true, ap (λ (log : Slab). log.sequence) c.self.view_is, ap (λ (log : Slab). log.durable) c.self.view_is))), refl)
      | then-is_empty-via-else-is_empty+else-self+then-not-may_overwrite w ↦ (
        inr (inr (λ may. let said = w.may_overwrite.ensures.1 may in cc (said, w.if-not-may_overwrite.true))),
        refl,
      )
    ]
