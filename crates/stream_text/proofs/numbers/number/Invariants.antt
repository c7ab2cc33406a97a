use Rattle.std.proofs.Common.{◌≡◌, ◌≤◌, drop}
use Rattle.stream_text.specs.LineWords.{number_of, least_number}
use Rattle.stream_text.proofs.NumberLaws.{number_after}
use Rattle.stream_text.proofs.numbers.number.Given as goal

abbrev pub invariant-loop-byte : goal.invariant-loop-byte
invariant-loop-byte l = record {
  same : least_number 4294967296 (number_of l.word) ≡ number_after 4294967296 l.value (drop l.byte-index l.word);
  small : l.value ≤ 4294967296;
}
