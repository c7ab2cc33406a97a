use Rattle.format_guards.proofs.RecoveryFacts.{faulty_not_recovered}
use Rattle.format_guards.proofs.recovery.an_image_with_a_fault_is_not_recovered.Goals as goal

pub returns : goal.returns
returns g c = faulty_not_recovered _ _ _ c.recover.result c.recover.ensures
