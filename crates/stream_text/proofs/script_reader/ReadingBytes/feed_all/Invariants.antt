use Rattle.std.proofs.Common.{◌≡◌, ◌≤◌, ◌+◌, ◌-◌, length}
use Rattle.std.specs.Prelude.{IsTrue}
use Rattle.stream_text.specs.ReadingBytes.{goes_on_from, IsReadingBytes}
use Rattle.stream_text.proofs.script_reader.ReadingBytes.feed_all.Given as goal

abbrev pub invariant-pieces : goal.invariant-pieces
invariant-pieces g l = record {
  sound : IsReadingBytes l.self.count l.self.number l.self.before l.self.streams l.self.line.items;
  same : IsTrue g.S.Source.tells
      → goes_on_from l.initial.self.number l.initial.self.before l.initial.self.streams l.initial.self.line.items (g.S.Source.seen l.initial.source).left
      ≡ goes_on_from l.self.number l.self.before l.self.streams l.self.line.items (g.S.Source.seen l.source).left;
  later : (g.S.Source.seen l.initial.source).faults ≤ (g.S.Source.seen l.source).faults;
}

abbrev pub decreases-pieces : goal.decreases-pieces
decreases-pieces g l = 134217729 - (l.self.before + length l.self.line.items)
