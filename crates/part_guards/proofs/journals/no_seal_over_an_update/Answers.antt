-- A block that is sealed has each update of the one before in its slot covered.
use Rattle.part_guards.proofs.Sealing.{none_over}
use Rattle.part_guards.proofs.journals.no_seal_over_an_update.Goals as goal

pub returns-clause-none : goal.returns-clause-none
returns-clause-none g c =
    none_over c.args.journal.now c.seal.new.self c.seal.result g.list.0 g.list.1 c.requires.0 c.requires.1 c.seal.ensures.some
