use Rattle.command_text.proofs.FaultLaws.{counts_line}
use Rattle.command_text.proofs.faults.put_counts_fault.Goals as goal

pub returns : goal.returns
returns g c = rw (← counts_line c.args.at c.args.stored c.args.mapped) c.put_lines.ensures
