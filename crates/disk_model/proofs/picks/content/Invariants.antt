use Rattle.std.proofs.Common.{◌≡◌, ◌≤◌, length, reverse, take}
use Rattle.disk_model.specs.PickParts.{Reached}
use Rattle.disk_model.proofs.picks.content.Given as goal

abbrev pub invariant-loop-call : goal.invariant-loop-call
invariant-loop-call l = record {
  reached : Reached l.before (reverse (take l.call-index l.calls)) l.at l.k l.content l.given l.count;
  few : l.count ≤ l.call-index;
  size : length l.content ≡ 4096;
}
