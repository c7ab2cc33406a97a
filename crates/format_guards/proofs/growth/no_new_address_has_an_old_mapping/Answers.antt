use Rattle.format_guards.proofs.GrowthFacts.{none_mapped}
use Rattle.format_guards.proofs.growth.no_new_address_has_an_old_mapping.Goals as goal

pub returns : goal.returns
returns g c = none_mapped _ _ _ _ _ c.grow.result c.grow.ensures
