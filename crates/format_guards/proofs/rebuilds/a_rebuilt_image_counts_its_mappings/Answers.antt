use Rattle.format_guards.proofs.RebuildFacts.{counts_true}
use Rattle.format_guards.proofs.rebuilds.a_rebuilt_image_counts_its_mappings.Goals as goal

pub returns : goal.returns
returns g c = counts_true _ _ _ c.force.result c.force.ensures
