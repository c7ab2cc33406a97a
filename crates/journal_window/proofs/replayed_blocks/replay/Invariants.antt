use Rattle.std.proofs.Common.{reverse}
use Rattle.journal_window.specs.Newest.{AreReplayed}
use Rattle.journal_window.proofs.replayed_blocks.replay.Given as goal

abbrev pub invariant-loop-sequence : goal.invariant-loop-sequence
invariant-loop-sequence l = AreReplayed l.layout.geometry l.journal l.span.last l.span.first l.sequence (reverse l.entries.items)
