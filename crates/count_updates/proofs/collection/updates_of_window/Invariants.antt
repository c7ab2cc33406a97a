use Rattle.std.proofs.Common.{◌≡◌, take, flat_map}
use Rattle.count_updates.specs.Entries.{updates_in}
use Rattle.count_updates.proofs.collection.updates_of_window.Given as goal

abbrev pub invariant-loop-committed : goal.invariant-loop-committed
invariant-loop-committed l = l.updates.items ≡ flat_map updates_in (take l.committed-index l.window)
