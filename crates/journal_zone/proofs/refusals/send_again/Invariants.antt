use Rattle.std.proofs.Common.{◌≡◌, ◌≤◌, ◌+◌, ◌++◌, [], length}
use Rattle.core_model.specs.JournalRules.{all_again}
use Rattle.data_vio.specs.declared.limits.TheConstants.{POST_ROOM}
use Rattle.journal_zone.proofs.refusals.send_again.Given as goal

abbrev pub invariant-loop-vio : goal.invariant-loop-vio
invariant-loop-vio l = record {
  room : length l.posts + length l.zone.waiting ≤ POST_ROOM;
  zone : record l.zone { waiting = [] } ≡ record l.fn.zone { waiting = [] };
  posts : l.posts ++ all_again l.zone.waiting ≡ l.fn.posts ++ all_again l.fn.zone.waiting;
}

abbrev pub decreases-loop-vio : goal.decreases-loop-vio
decreases-loop-vio l = length l.zone.waiting
