use Rattle.std.proofs.Common.{◌∙◌, sym, [], refl}
use Rattle.core_model.specs.DeskRules.DeskServes.{parks}
use Rattle.desk_zone.proofs.replies.serve_desk.Goals as goal

pub returns-then-not-is_notified : goal.returns-then-not-is_notified
returns-then-not-is_notified c = (
  [],
  parks c.in-Some.given c.requires.phase (rw c.get.ensures at c.in-Some.is) (sym c.is_stopped.ensures ∙ c.if-is_stopped.true)
      (sym c.is_notified.ensures ∙ c.if-not-is_notified.true) c.park.ensures refl refl,
)
