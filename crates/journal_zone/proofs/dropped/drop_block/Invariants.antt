use Rattle.std.proofs.Common.{◌≡◌, ◌≤◌, ◌+◌, ◌++◌, length}
use Rattle.core_model.specs.JournalRules.{all_dropped}
use Rattle.data_vio.specs.declared.limits.TheConstants.{POST_ROOM}
use Rattle.journal_zone.proofs.dropped.drop_block.Given as goal

abbrev pub invariant-loop-vio : goal.invariant-loop-vio
invariant-loop-vio l = record {
  room : length l.posts + length l.vios ≤ POST_ROOM;
  count : length l.posts + length l.vios ≡ length l.fn.posts + length l.fn.vios;
  posts : l.posts ++ all_dropped l.sizes l.vios ≡ l.fn.posts ++ all_dropped l.sizes l.fn.vios;
}

abbrev pub decreases-loop-vio : goal.decreases-loop-vio
decreases-loop-vio l = length l.vios
