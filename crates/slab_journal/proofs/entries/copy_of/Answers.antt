use Rattle.std.proofs.Common.{rules}
use Rattle.slab_journal.proofs.entries.copy_of.Goals as goal

pub returns : goal.returns
returns c = search rules
