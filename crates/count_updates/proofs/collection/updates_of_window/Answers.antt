use Rattle.std.proofs.Common.{◌∙◌, ap, flat_map}
use Rattle.std.proofs.lemmas.List.{take_all}
use Rattle.count_updates.specs.Entries.{updates_in}
use Rattle.count_updates.proofs.WindowLaws.{lists_window}
use Rattle.count_updates.proofs.collection.updates_of_window.Goals as goal

pub returns : goal.returns
returns c = lists_window _ _ (c.loop-committed.invariant ∙ ap (flat_map updates_in) (take_all _ _ c.loop-committed-test.false))
