use Rattle.std.proofs.Common.{rules}
use Rattle.vdo_cli.proofs.endings.status_of.Goals as goal

pub returns-in-Image : goal.returns-in-Image
returns-in-Image c = search rules
