use Rattle.std.proofs.Common.{◌∙◌, sym, refl}
use Rattle.core_model.specs.LogicalRules.LogicalServes.{leafed}
use Rattle.logical_zone.proofs.requests.go_on_leafed.Goals as goal

pub returns : goal.returns
returns c = leafed _ c.requires.phase (sym c.goes_on.ensures ∙ c.in-Some.is) refl refl c.first.ensures
