use Rattle.std.proofs.Common.{arith}
use Rattle.core_model.proofs.CountLaws.{few_in_all}
use Rattle.core_model.proofs.desk.Desk.new.Goals as goal

pub overflow_add-count_reads : goal.overflow_add-count_reads
overflow_add-count_reads c = let few = few_in_all c.args.requests in omega (arith, few, c.count_reads.ensures, c.requires.few)
