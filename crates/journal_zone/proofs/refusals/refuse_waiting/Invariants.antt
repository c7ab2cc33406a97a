use Rattle.std.proofs.Common.{◌≡◌, ◌≤◌, ◌+◌, ◌++◌, [], length}
use Rattle.core_model.specs.JournalRules.{all_refused}
use Rattle.journal_zone.specs.Refusals.{answer_for}
use Rattle.journal_zone.specs.declared.refusals.Refusal.TheVariants.{Stopped}
use Rattle.data_vio.specs.declared.limits.TheConstants.{POST_ROOM}
use Rattle.journal_zone.proofs.refusals.refuse_waiting.Given as goal

abbrev pub invariant-loop-vio : goal.invariant-loop-vio
invariant-loop-vio l = record {
  room : length l.posts + length l.zone.waiting ≤ POST_ROOM;
  zone : record l.zone { waiting = [] } ≡ record l.fn.zone { waiting = [] };
  posts : l.posts ++ all_refused l.sizes (answer_for Stopped) l.zone.waiting ≡ l.fn.posts ++ all_refused l.sizes (answer_for Stopped) l.fn.zone.waiting;
}

abbrev pub decreases-loop-vio : goal.decreases-loop-vio
decreases-loop-vio l = length l.zone.waiting
