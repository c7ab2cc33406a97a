use Rattle.core_guards.proofs.ZoneActs.{stored_on}
use Rattle.core_guards.proofs.acts.a_write_that_was_stored_goes_on.Goals as goal

pub returns : goal.returns
returns g c = λ none. stored_on _ _ _ _ _ _ _ _ c.act.ensures.acts c.requires.stores c.requires.runs c.requires.durable none
