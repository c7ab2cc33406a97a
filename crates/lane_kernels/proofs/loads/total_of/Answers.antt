use Rattle.lane_kernels.proofs.SumLaws.{adds_up, parts_fit, total_is, few_is}
use Rattle.lane_kernels.proofs.loads.total_of.Goals as goal

pub dot4 : goal.dot4
dot4 c = (parts_fit c.args.bytes.now c.args.at c.requires c.type_inv.bytes, tt)

pub overflow_add-result : goal.overflow_add-result
overflow_add-result c = adds_up c.args.bytes.now c.args.at c.requires c.type_inv.bytes

pub returns-clause-total : goal.returns-clause-total
returns-clause-total c = total_is c.args.bytes.now c.args.at c.requires c.type_inv.bytes

pub returns-clause-few : goal.returns-clause-few
returns-clause-few c = few_is c.args.bytes.now c.args.at c.requires c.type_inv.bytes
