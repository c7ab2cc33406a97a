use Rattle.std.proofs.Common.{List, sym, subst}
use Rattle.blk_base.specs.declared.journal_entry.CommittedEntry.{CommittedEntry}
use Rattle.replay_map.specs.Changes.{AreNewest}
use Rattle.audit.proofs.contents.read_contents.Goals as goal

pub contents_with-requires-clause-newest : goal.contents_with-requires-clause-newest
contents_with-requires-clause-newest g c = subst (λ (entries : List CommittedEntry). AreNewest entries c.in-Ok.changes) (sym c.entries.ensures) c.in-Ok.ensures
