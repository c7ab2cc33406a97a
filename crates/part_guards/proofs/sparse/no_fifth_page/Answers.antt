use Rattle.part_guards.proofs.Hooking.{four_asks}
use Rattle.part_guards.proofs.sparse.no_fifth_page.Goals as goal

pub returns : goal.returns
returns c = λ at is. four_asks c.args.name.now c.args.index.now c.look.new.self c.look.result at c.requires c.look.ensures is
