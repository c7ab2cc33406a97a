use Rattle.std.proofs.Common.{ℕ, [], ◌+◌, ◌*◌, ◌∙◌, List, subst, sym}
use Rattle.slab_counts.specs.Counts.{Counts, IsOpening}
use Rattle.zone_counts.specs.Zone.{AreOpenedWith}
use Rattle.zone_counts.proofs.OpeningLaws.{opened_more}
use Rattle.zone_counts.proofs.opened_slabs.slabs_without_pages.Goals as goal

pub loop-k-preserved : goal.loop-k-preserved
loop-k-preserved c =
    let opened = c.args.opened.now in
    let geometry = opened.head.geometry in
    let counters = opened.counters.items in
    let number = c.loop-k.k * c.args.zones + c.args.zone in
    let opening : IsOpening geometry number counters [] c.in_ok-slab.slab
    = subst (λ (xs : List ℕ). IsOpening geometry number xs [] c.in_ok-slab.slab) c.deref.ensures.value c.in_ok-slab.ensures.opening in
    record {
      opened = subst (λ (xs : List Counts). AreOpenedWith geometry counters [] c.args.zone c.args.zones (c.loop-k.k + 1) xs) (sym c.push_reserved.ensures.items)
          (opened_more geometry counters [] c.args.zone c.args.zones c.loop-k.k c.loop-k.slabs.items c.in_ok-slab.slab c.loop-k.invariant.opened opening c.in_ok-slab.ensures.within);
      capacity = c.push_reserved.ensures.capacity ∙ c.loop-k.invariant.capacity;
    }
