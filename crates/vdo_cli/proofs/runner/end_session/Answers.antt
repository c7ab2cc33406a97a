use Rattle.std.proofs.Common.{rules}
use Rattle.vdo_cli.proofs.runner.end_session.Goals as goal

pub returns-clause-closes : goal.returns-clause-closes
returns-clause-closes g c = λ tells text before after puts. search rules
