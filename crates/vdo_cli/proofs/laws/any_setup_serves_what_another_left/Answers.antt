use Rattle.vdo_cli.proofs.OtherSetups.{serves_what_is_left}
use Rattle.vdo_cli.proofs.laws.any_setup_serves_what_another_left.Goals as goal

pub returns : goal.returns
returns c = serves_what_is_left
