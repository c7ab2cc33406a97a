use Rattle.std.proofs.Common.{rules}
use Rattle.journal_codec.proofs.decoder.goes_on.Goals as goal

pub returns-then-entries-from : goal.returns-then-entries-from
returns-then-entries-from c = search rules

pub returns-else-entries-from : goal.returns-else-entries-from
returns-else-entries-from c = search rules
