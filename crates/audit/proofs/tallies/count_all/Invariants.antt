use Rattle.std.proofs.Common.{◌≡◌, List, [], length, take}
use Rattle.audit.specs.Tallies.{AreNumbers, IsSplit, number_in}
use Rattle.replay_map.specs.declared.links.Link.{Link}
use Rattle.audit.proofs.tallies.count_all.Given as goal

abbrev pub invariant-loop-at : goal.invariant-loop-at
invariant-loop-at l = record {
  size : length l.tally.low.items ≡ length l.fn.tally.low.items;
  tallied : (links : List Link) → AreNumbers l.layout.geometry links [] (number_in l.fn.tally) → AreNumbers l.layout.geometry links (take l.at-index l.mapped) (number_in l.tally);
  split : IsSplit l.fn.tally → IsSplit l.tally;
}
