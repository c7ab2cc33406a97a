use Rattle.part_guards.proofs.Hooking.{unread_ends}
use Rattle.part_guards.proofs.sparse.a_page_that_fails_is_not_cached.Goals as goal

pub returns-clause-found : goal.returns-clause-found
returns-clause-found c = (unread_ends c.args.name.now c.args.index.now c.look.new.self c.look.result c.requires c.look.ensures).0

pub returns-clause-cached : goal.returns-clause-cached
returns-clause-cached c = (unread_ends c.args.name.now c.args.index.now c.look.new.self c.look.result c.requires c.look.ensures).1
