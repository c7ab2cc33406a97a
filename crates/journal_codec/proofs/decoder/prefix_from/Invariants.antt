use Rattle.journal_codec.specs.Grammar.{IsRun}
use Rattle.journal_codec.proofs.decoder.prefix_from.Given as goal

abbrev pub invariant-loop-count : goal.invariant-loop-count
invariant-loop-count l = IsRun l.nonce l.block l.first.sequence l.first.head l.count l.entries
