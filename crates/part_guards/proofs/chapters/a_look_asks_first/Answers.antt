-- Where nothing is cached and nothing was given, a chapter with the name's tag has a page to ask for.
use Rattle.part_guards.proofs.Asking.{asks_first}
use Rattle.part_guards.proofs.chapters.a_look_asks_first.Goals as goal

pub returns : goal.returns
returns g c =
    asks_first c.args.name.now c.args.index.now c.look.result g.chapter c.requires.0 c.requires.1.0 c.requires.1.1.0 c.requires.1.1.1.0 c.requires.1.1.1.1.0 c.requires.1.1.1.1.1 c.look.ensures.asks
