use Rattle.core_limits.proofs.WholeZones.{zone_within}
use Rattle.core_limits.proofs.laws.a_legal_core_keeps_within_its_room.Goals as goal

pub returns : goal.returns
returns c = λ s core n z session legal. zone_within s core session legal n z
