use Rattle.std.proofs.Common.{ℕ, List, subst}
use Rattle.lane_kernels.specs.Kernels.{IsLeastFree}
use Rattle.slab_counts.specs.Counts.{Counts, HasNoFree}
use Rattle.slab_counts.specs.Viewed.{counts_of}
use Rattle.slab_counts.proofs.AnswerLaws.{some_free}
use Rattle.slab_counts.proofs.counts.SlabCounts.has_free.Goals as goal

pub returns-in-Some-clause-yes : goal.returns-in-Some-clause-yes
returns-in-Some-clause-yes c = λ yes.
    let least : IsLeastFree c.self.inside.counters.items c.self.inside.claims.items c.in-Some.offset
    = subst (λ (xs : List ℕ). IsLeastFree xs c.self.inside.claims.items c.in-Some.offset) c.deref.ensures.value
    (subst (λ (xs : List ℕ). IsLeastFree c.deref.result.now xs c.in-Some.offset) c.deref-2.ensures.value c.in-Some.ensures.some) in
    subst (λ (counts : Counts). HasNoFree counts → ⊥) c.self.view_is (some_free (counts_of c.self.inside) c.in-Some.offset c.self.invariant.within least)
