use Rattle.std.proofs.Common.{◌≡◌, ◌+◌, ◌++◌, ℕ, List, length}
use Rattle.stream_text.specs.ReadingBytes.{goes_on_from, IsReadingBytes}
use Rattle.stream_text.proofs.script_reader.ReadingBytes.feed.Given as goal

abbrev pub invariant-lines : goal.invariant-lines
invariant-lines l = record {
  sound : IsReadingBytes l.self.count l.self.number l.self.before l.self.streams l.self.line.items;
  same : (later : List ℕ) → goes_on_from l.initial.self.number l.initial.self.before l.initial.self.streams l.initial.self.line.items (l.bytes ++ later)
      ≡ goes_on_from l.self.number l.self.before l.self.streams l.self.line.items (l.rest ++ later);
  taken : l.self.before + length l.self.line.items + length l.rest ≡ l.initial.self.before + length l.initial.self.line.items + length l.bytes;
}

abbrev pub decreases-lines : goal.decreases-lines
decreases-lines l = length l.rest
