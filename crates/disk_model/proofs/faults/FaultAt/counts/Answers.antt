use Rattle.std.proofs.Common.{rules}
use Rattle.disk_model.proofs.faults.FaultAt.counts.Goals as goal

pub returns-in-Flush-Flush : goal.returns-in-Flush-Flush
returns-in-Flush-Flush c = search rules
