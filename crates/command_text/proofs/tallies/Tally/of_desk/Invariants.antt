use Rattle.std.proofs.Common.{◌≡◌, ◌≤◌, ◌*◌, take, reverse}
use Rattle.command_text.specs.Tallies.{tally_of}
use Rattle.command_text.proofs.tallies.Tally.of_desk.Given as goal

abbrev pub invariant-loop-at : goal.invariant-loop-at
invariant-loop-at l = record {
  value : l.tally ≡ tally_of (reverse (take l.at l.desk));
  ok : l.tally.ok ≤ l.at;
  no_space : l.tally.no_space ≤ l.at;
  read_sum : l.tally.read_sum ≤ 1044480 * l.at;
}
