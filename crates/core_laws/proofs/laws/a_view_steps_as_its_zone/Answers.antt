use Rattle.core_laws.proofs.kept.Views.{seat_step}
use Rattle.core_laws.proofs.laws.a_view_steps_as_its_zone.Goals as goal

pub returns : goal.returns
returns c = seat_step
