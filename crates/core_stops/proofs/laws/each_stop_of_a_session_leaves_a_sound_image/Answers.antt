use Rattle.core_stops.proofs.SoundStops.{sound_stops}
use Rattle.core_stops.proofs.laws.each_stop_of_a_session_leaves_a_sound_image.Goals as goal

pub returns : goal.returns
returns c = λ s core to session legal. sound_stops s core.trace to session legal.right
