use Rattle.std.proofs.Common.{List, [], ◌∷◌, ◌++◌, ap, subst, sym, arith}
use Rattle.blk_base.specs.declared.point.Point.{Point}
use Rattle.slab_codec.specs.Grammar.{HoldsEntry}
use Rattle.slab_codec.specs.declared.forms.SlabEntry.{SlabEntry}
use Rattle.slab_journal.specs.contracts.journal.SlabJournal.{the_view}
use Rattle.slab_journal.specs.Slab.{Slab, Keeps}
use Rattle.slab_journal.specs.Kept.{IsKept}
use Rattle.slab_journal.proofs.SlabLaws.{kept_added, keeps_added, entry_held}
use Rattle.slab_journal.proofs.journal.SlabJournal.add.Goals as goal

pub invariant_of-self : goal.invariant_of-self
invariant_of-self c =
    let log = the_view c.self.inside in
    let entry = c.slab_entry-entry.result in
    let same = c.slab_entry-entry.ensures.value in
    let point = ap (λ (e : SlabEntry). e.point) same in
    subst (λ (filling : List SlabEntry). IsKept (record log { filling = filling; last = c.args.update.now.point })) (sym c.push.ensures)
    (subst (λ (last : Point). IsKept (record log { filling = log.filling ++ entry ∷ []; last = last })) point
    (kept_added log entry c.self.invariant
    (subst (λ (e : SlabEntry). HoldsEntry c.self.inside.layout.geometry.slab_blocks e) (sym same)
    (entry_held log c.args.self.now c.args.update.now.at.0 c.data_block.result.0 c.args.update.now.point c.self.view_is c.self.invariant
    c.data_block.ensures.block c.requires.place c.slab_entry-entry.ensures.fits))
    (omega (arith, c.requires.rises, ap (λ (l : Slab). l.last.0) c.self.view_is, ap (λ (p : Point). p.0) point))))

pub returns-clause-kept : goal.returns-clause-kept
returns-clause-kept c =
    let log = the_view c.self.inside in
    let last = c.args.update.now.point in
    subst (λ (old : Slab). Keeps old (record log { filling = c.push.new.self; last = last })) c.self.view_is
    (subst (λ (filling : List SlabEntry). Keeps log (record log { filling = filling; last = last })) (sym c.push.ensures) (keeps_added log _ last))
