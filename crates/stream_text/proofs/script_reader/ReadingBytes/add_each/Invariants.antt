use Rattle.std.proofs.Common.{◌≡◌, ◌+◌, ◌++◌, ℕ, List, drop, length}
use Rattle.stream_text.specs.ReadingBytes.{goes_on_from, IsReadingBytes}
use Rattle.stream_text.proofs.script_reader.ReadingBytes.add_each.Given as goal

abbrev pub invariant-loop-byte : goal.invariant-loop-byte
invariant-loop-byte l = record {
  sound : IsReadingBytes l.self.count l.self.number l.self.before l.self.streams l.self.line.items;
  same : (rest : List ℕ) → goes_on_from l.initial.self.number l.initial.self.before l.initial.self.streams l.initial.self.line.items (l.bytes ++ rest)
      ≡ goes_on_from l.self.number l.self.before l.self.streams l.self.line.items (drop l.byte-index l.bytes ++ rest);
  taken : l.self.before + length l.self.line.items ≡ l.initial.self.before + length l.initial.self.line.items + l.byte-index;
}
