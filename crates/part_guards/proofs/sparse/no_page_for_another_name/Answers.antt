use Rattle.part_guards.proofs.Hooking.{no_hook_asks}
use Rattle.part_guards.proofs.sparse.no_page_for_another_name.Goals as goal

pub returns : goal.returns
returns c = λ at is. no_hook_asks c.args.name.now c.args.index.now c.look.new.self c.look.result at c.requires c.look.ensures is
