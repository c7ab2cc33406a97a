use Rattle.std.proofs.Common.{◌≡◌, ◌-◌, drop, length}
use Rattle.uds_index.specs.Tags.{AreListed}
use Rattle.uds_index.proofs.volume.list_all.Given as goal

abbrev pub invariant-loop-listed : goal.invariant-loop-listed
invariant-loop-listed l = record {
  listed : AreListed (drop (l.count - l.listed) l.kept) l.tags.tags;
  room : l.tags.room ≡ l.fn.tags.room;
  count : l.count ≡ length l.kept;
}
