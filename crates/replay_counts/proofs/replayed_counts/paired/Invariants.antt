use Rattle.std.proofs.Common.{◌≡◌, ◌<◌, ℕ, length, get_or}
use Rattle.count_updates.specs.Counted.{commit_in}
use Rattle.replay_counts.specs.Recovered.{no_points}
use Rattle.replay_counts.proofs.replayed_counts.paired.Given as goal

abbrev pub invariant-loop-i : goal.invariant-loop-i
invariant-loop-i l = record {
  size : length l.sectors.items ≡ l.i;
  each : (n : ℕ) → n < l.i → ((get_or l.sectors.items n no_points).commit.0 ≡ commit_in l.commits n) × ((get_or l.sectors.items n no_points).applied.0 ≡ commit_in l.applied n);
}
