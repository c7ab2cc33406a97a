use Rattle.core_laws.proofs.quiet.Quiet.{quiet_writes}
use Rattle.core_laws.proofs.laws.a_quiet_write_finds_no_space_in_a_full_image.Goals as goal

pub returns : goal.returns
returns c = quiet_writes
