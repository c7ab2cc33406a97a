use Rattle.std.proofs.Common.{List, ◌∙◌, subst, sym, refl, arith, ◌<◌, length}
use Rattle.std.proofs.lemmas.List.{get_or_default}
use Rattle.slab_counts.specs.Counts.{Counts, HasNoFree}
use Rattle.zone_counts.specs.Zone.{NoneFree, nowhere}
use Rattle.zone_counts.proofs.search.has_free.Goals as goal

pub returns-then-has_free-clause-yes : goal.returns-then-has_free-clause-yes
returns-then-has_free-clause-yes c = λ yes none.
    let none' = subst (λ (slabs : List Counts). NoneFree slabs) (sym c.loop-cursor.invariant.same) none in
    let inside : c.loop-cursor.cursor < length c.loop-cursor.slabs.items = omega (arith, c.loop-cursor.slabs.ok) in
    c.if-has_free.ensures.yes refl
    (subst (λ (slab : Counts). HasNoFree slab)
    (get_or_default c.loop-cursor.slabs.items c.loop-cursor.cursor nowhere c.index_mut-slab.result.now inside ∙ sym c.index_mut-slab.ensures.value) (none' c.loop-cursor.cursor inside))
