use Rattle.std.proofs.Common.{ℕ, ◌≡◌, ◌<◌, length, slice_index}
use Rattle.audit.specs.Tallies.{number_in}
use Rattle.audit.proofs.tallies.tally.Given as goal

abbrev pub invariant-loop-n : goal.invariant-loop-n
invariant-loop-n l = record {
  size : length l.tallied.items ≡ l.n;
  each : (k : ℕ) → k < l.n → slice_index l.tallied.items k ≡ number_in l.counts k;
}
