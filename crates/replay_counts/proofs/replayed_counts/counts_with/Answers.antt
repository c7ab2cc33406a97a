use Rattle.replay_counts.proofs.ImageLaws.{counts_read, fault_read}
use Rattle.replay_counts.proofs.LimitLaws.{counted_within}
use Rattle.replay_counts.proofs.replayed_counts.counts_with.Goals as goal

pub returns-in-Ok-counted-clause-counts : goal.returns-in-Ok-counted-clause-counts
returns-in-Ok-counted-clause-counts g c =
    let found = c.in_ok-read_slabs.ensures.found in
    counts_read _ _ _ c.of-layout.ensures _ _ _ _ _ _ _ _ c.in-Ok.ensures found.0 found.1 found.2 found.3 c.put_in_order.ensures.permutation _ _ c.in-Ok-counted.ensures.counts

pub returns-in-Err-Counter-clause-fault : goal.returns-in-Err-Counter-clause-fault
returns-in-Err-Counter-clause-fault g c =
    let found = c.in_ok-read_slabs.ensures.found in
    fault_read _ _ _ c.of-layout.ensures _ _ _ _ _ _ _ _ c.in-Ok.ensures found.0 found.1 found.2 found.3 c.put_in_order.ensures.permutation _ _
    (rw c.in-Err-Counter.field-0-is at c.in-Err-Counter.ensures.refused)

pub returns-in-Ok-counted-clause-limit : goal.returns-in-Ok-counted-clause-limit
returns-in-Ok-counted-clause-limit g c = counted_within c.args.head.now.geometry _ _ c.requires.sizes (rw c.of-layout.ensures at c.in-Ok-counted.ensures.counts.counted)
