use Rattle.session_stops.proofs.SoundImages.{rest_sound, way_sound}
use Rattle.session_stops.proofs.sessions.each_stop_leaves_a_sound_image.Goals as goal

pub returns-clause-rest : goal.returns-clause-rest
returns-clause-rest c = rest_sound

pub returns-clause-torn : goal.returns-clause-torn
returns-clause-torn c = way_sound
