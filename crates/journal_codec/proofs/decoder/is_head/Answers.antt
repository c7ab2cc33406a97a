use Rattle.std.proofs.Common.{rules}
use Rattle.journal_codec.proofs.decoder.is_head.Goals as goal

pub returns-then-head-sequence : goal.returns-then-head-sequence
returns-then-head-sequence c = search rules
