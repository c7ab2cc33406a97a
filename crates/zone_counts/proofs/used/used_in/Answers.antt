use Rattle.std.proofs.Common.{arith, ap}
use Rattle.std.proofs.lemmas.List.Sums.{sum_by_more}
use Rattle.slab_counts.specs.Counts.{Counts, used_of}
use Rattle.zone_counts.proofs.UsedLaws.{used_few}
use Rattle.zone_counts.proofs.used.used_in.Goals as goal

pub overflow_add-used : goal.overflow_add-used
overflow_add-used c =
    let few = used_few c.slab-item.result c.used-used.ensures.within in
    omega (arith, few, c.used-used.ensures.used, c.loop-slab.invariant.few, c.loop-slab-test.true, c.requires)

pub loop-slab-preserved : goal.loop-slab-preserved
loop-slab-preserved c =
    let few = used_few c.slab-item.result c.used-used.ensures.within in
    let more = sum_by_more used_of c.args.slabs.now c.loop-slab.slab-index c.slab-item.result c.loop-slab-test.true in
    let same = ap (λ (s : Counts). used_of s) c.slab-item.is in
    record {
      so_far = omega (arith, more, same, c.used-used.ensures.used, c.loop-slab.invariant.so_far);
      few = omega (arith, few, c.used-used.ensures.used, c.loop-slab.invariant.few);
    }
