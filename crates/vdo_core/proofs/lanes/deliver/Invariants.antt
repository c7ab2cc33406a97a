use Rattle.std.proofs.Common.{◌≡◌, length}
use Rattle.std.specs.List.{AllByRecursion}
use Rattle.core_model.specs.Steps.{delivered}
use Rattle.vdo_core.specs.Conditions.{HasLane}
use Rattle.vdo_core.specs.Lanes.{HasRoomFor}
use Rattle.vdo_core.proofs.lanes.deliver.Given as goal

abbrev pub invariant-loop-to : goal.invariant-loop-to
invariant-loop-to l = record {
  delivers : delivered l.sizes l.fn.posts l.fn.zone ≡ delivered l.sizes l.posts l.zone;
  lanes : AllByRecursion (HasLane l.sizes l.zone) l.posts;
  room : HasRoomFor (length l.posts) l.zone;
}

abbrev pub decreases-loop-to : goal.decreases-loop-to
decreases-loop-to l = length l.posts
