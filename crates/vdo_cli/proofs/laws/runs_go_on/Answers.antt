use Rattle.vdo_cli.proofs.OnwardLaws.{run_goes_on, goes_on}
use Rattle.vdo_cli.proofs.laws.runs_go_on.Goals as goal

pub returns : goal.returns
returns c = record { one = run_goes_on; two = goes_on }
