use Rattle.std.proofs.Common.{List, sym, subst}
use Rattle.blk_base.specs.declared.journal_entry.CommittedEntry.{CommittedEntry}
use Rattle.replay_map.specs.Changes.{AreNewest}
use Rattle.replay_map.proofs.replayed_map.replay_with.Goals as goal

pub replay_changes-requires-clause-newest : goal.replay_changes-requires-clause-newest
replay_changes-requires-clause-newest g c = subst (λ (window : List CommittedEntry). AreNewest window c.in-Ok.changes) (sym c.entries.ensures) c.in-Ok.ensures
