use Rattle.std.proofs.Common.{◌≡◌, ◌≤◌, ◌*◌, take}
use Rattle.std.specs.List.{sum}
use Rattle.command_text.proofs.tallies.byte_sum.Given as goal

abbrev pub invariant-loop-byte : goal.invariant-loop-byte
invariant-loop-byte l = record {
  value : l.sum ≡ sum (take l.byte-index l.bytes);
  small : l.sum ≤ 255 * l.byte-index;
}
