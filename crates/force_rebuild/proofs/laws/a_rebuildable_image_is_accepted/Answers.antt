use Rattle.force_rebuild.proofs.AcceptLaws.{left_rebuilt, not_refused, sound_is_rebuildable}
use Rattle.force_rebuild.proofs.laws.a_rebuildable_image_is_accepted.Goals as goal

pub returns-clause-accepted : goal.returns-clause-accepted
returns-clause-accepted c = λ blocks before now why is refused. not_refused blocks is before now why refused

pub returns-clause-sound : goal.returns-clause-sound
returns-clause-sound c = sound_is_rebuildable

pub returns-clause-left : goal.returns-clause-left
returns-clause-left c = left_rebuilt
