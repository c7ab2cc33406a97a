use Rattle.std.proofs.Common.{◌*◌}
use Rattle.physical_zone.proofs.StartLaws.{has_ticket_room, starts}
use Rattle.physical_zone.proofs.start.first.Goals as goal

pub returns : goal.returns
returns c = λ s sizes counters.
    starts s c.args.sizes.now c.args.opened.now sizes c.requires.same counters c.args.zone _ _ (32 * c.max-depth.result) c.in_ok-strays.strays c.in_ok-counts.counts c.from-zone.ensures c.from-zones.ensures
    c.in_ok-strays.ensures (has_ticket_room c.args.sizes.now _ c.max-depth.ensures) c.in_ok-counts.ensures.opening c.in_ok-counts.ensures.right
