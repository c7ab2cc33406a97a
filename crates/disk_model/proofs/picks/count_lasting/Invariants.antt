use Rattle.std.proofs.Common.{◌≡◌, ◌≤◌, length, reverse, take}
use Rattle.disk_model.specs.PickParts.{lasting}
use Rattle.disk_model.proofs.picks.count_lasting.Given as goal

abbrev pub invariant-loop-call : goal.invariant-loop-call
invariant-loop-call l = record {
  made : l.made ≡ l.call-index;
  count : l.count ≡ length (lasting (reverse (take l.call-index l.calls)));
  few : l.count ≤ l.call-index;
}
