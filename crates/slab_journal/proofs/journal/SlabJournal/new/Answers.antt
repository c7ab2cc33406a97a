use Rattle.std.proofs.Common.{sym, subst, [], rules}
use Rattle.slab_journal.specs.Slab.{Slab}
use Rattle.slab_journal.specs.Kept.{IsKept}
use Rattle.slab_journal.proofs.SlabLaws.{kept_opening, is_opening}
use Rattle.slab_journal.proofs.journal.SlabJournal.new.Goals as goal

pub returns : goal.returns
returns c =
    is_opening c.args.geometry.now c.of-layout.result.geometry c.args.slab c.sectors_per_slab.result c.new.result c.in_ok-repeated_with.field-0.items c.in_ok-repeated.field-0.items
    c.of-layout.ensures c.sectors_per_slab.ensures c.new.ensures (c.in_ok-repeated_with.ensures [] (λ f g made called. search rules)) c.in_ok-repeated.ensures

pub invariant_of-result : goal.invariant_of-result
invariant_of-result c =
    subst (λ (log : Slab). IsKept log) (sym (returns c)) (kept_opening c.args.geometry.now c.args.slab c.requires.geometry c.requires.slab)
