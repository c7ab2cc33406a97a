use Rattle.vdo_cli.proofs.CrashLaws.{crash_shows_sound}
use Rattle.vdo_cli.proofs.crash_laws.a_crash_shows_a_sound_image.Goals as goal

pub returns : goal.returns
returns c = crash_shows_sound
