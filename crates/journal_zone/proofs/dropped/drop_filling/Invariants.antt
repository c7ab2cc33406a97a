use Rattle.std.proofs.Common.{◌≡◌, ◌≤◌, ◌+◌, ◌++◌, [], length}
use Rattle.core_model.specs.JournalRules.{all_dropped}
use Rattle.data_vio.specs.declared.limits.TheConstants.{POST_ROOM}
use Rattle.journal_zone.proofs.dropped.drop_filling.Given as goal

abbrev pub invariant-loop-vio : goal.invariant-loop-vio
invariant-loop-vio l = record {
  room : length l.posts + length l.zone.filling ≤ POST_ROOM;
  zone : record l.zone { filling = [] } ≡ record l.fn.zone { filling = [] };
  count : length l.posts + length l.zone.filling ≡ length l.fn.posts + length l.fn.zone.filling;
  posts : l.posts ++ all_dropped l.sizes l.zone.filling ≡ l.fn.posts ++ all_dropped l.sizes l.fn.zone.filling;
}

abbrev pub decreases-loop-vio : goal.decreases-loop-vio
decreases-loop-vio l = length l.zone.filling
