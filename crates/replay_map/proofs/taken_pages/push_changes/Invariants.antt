use Rattle.std.proofs.Common.{◌≡◌, ◌++◌, map}
use Rattle.blk_base.specs.declared.sizes.TheConstants.{PAGE_SLOTS}
use Rattle.replay_map.specs.Forms.{as_found, changes_in}
use Rattle.replay_map.proofs.PutLaws.{AreOwn}
use Rattle.replay_map.proofs.taken_pages.push_changes.Given as goal

abbrev pub invariant-loop-id : goal.invariant-loop-id
invariant-loop-id l = record {
  own : AreOwn l.changes l.fn.page l.id-iterator;
  pushed : l.slots.items ++ map as_found l.id-iterator ≡ l.initial.slots.items ++ changes_in l.changes l.fn.page PAGE_SLOTS;
}
