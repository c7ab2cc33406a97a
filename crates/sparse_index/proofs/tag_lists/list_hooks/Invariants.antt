use Rattle.std.proofs.Common.{◌≡◌, ◌-◌, drop, length, map}
use Rattle.uds_index.specs.Tags.{AreListed}
use Rattle.sparse_index.specs.Hooks.{hooks_of}
use Rattle.sparse_index.proofs.tag_lists.list_hooks.Given as goal

abbrev pub invariant-loop-listed : goal.invariant-loop-listed
invariant-loop-listed l = record {
  listed : AreListed (map hooks_of (drop (l.count - l.listed) l.kept)) l.hooks.tags;
  room : l.hooks.room ≡ l.fn.hooks.room;
  count : l.count ≡ length l.kept;
}
