use Rattle.recovery_laws.proofs.AlikeLaws.{alike_is_kept}
use Rattle.recovery_laws.proofs.laws.the_index_says_nothing.Goals as goal

pub returns : goal.returns
returns c = alike_is_kept
