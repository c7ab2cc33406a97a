use Rattle.std.proofs.Common.{◌≡◌, drop}
use Rattle.image_model.specs.Counts.{count_after}
use Rattle.count_updates.proofs.PointLaws.{points_above}
use Rattle.count_updates.proofs.block_counts.count_from.Given as goal

abbrev pub invariant-loop-update : goal.invariant-loop-update
invariant-loop-update l =
    count_after l.limit l.count (points_above l.at.0 l.applied.0 (drop l.update-index l.updates))
    ≡ count_after l.limit l.counter (points_above l.at.0 l.fn.commit.0 l.updates)
