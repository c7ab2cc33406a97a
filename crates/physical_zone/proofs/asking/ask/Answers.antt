use Rattle.std.proofs.Common.{rules, [], ◌∷◌, refl}
use Rattle.core_model.specs.PhysicalRules.PhysicalServes.{asks}
use Rattle.core_model.specs.Trace.{Asks}
use Rattle.physical_zone.proofs.AskingLaws.{is_now, may_ask}
use Rattle.physical_zone.proofs.asking.ask.Goals as goal

pub ask-requires-clause-begun : goal.ask-requires-clause-begun
ask-requires-clause-begun c = is_now _ _ _ c.begin_next.ensures

pub returns : goal.returns
returns c =
    let fewer = may_ask c.args.sizes.now c.args.zone.now c.args.vio c.requires.phase c.requires.none_free c.requires.rule in (
      Asks c.args.vio.request c.in-Ticket.ticket ∷ [],
      asks c.in-Ticket.ticket c.begin_next.new.counts c.ask.new.self c.requires.phase fewer c.begin_next.ensures (search rules) refl refl (search rules),
    )
