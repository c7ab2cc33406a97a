use Rattle.core_guards.proofs.ZoneActs.{waits_on}
use Rattle.core_guards.proofs.acts.a_write_waits_for_the_superblock.Goals as goal

pub returns : goal.returns
returns g c = λ none. waits_on _ _ _ _ _ _ _ _ c.act.ensures.acts c.requires.stores c.requires.runs c.requires.written none
