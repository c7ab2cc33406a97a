use Rattle.vdo_core.specs.Cores.{sizes_of}
use Rattle.vdo_core.proofs.SessionLaws.{all_can_step, bare, few_zones, first_reached, is_of}
use Rattle.vdo_core.proofs.cores.Core.begin.Goals as goal

pub of-notes-requires-clause-can : goal.of-notes-requires-clause-can
of-notes-requires-clause-can c =
    let sizes = sizes_of c.args.setup.now c.args.opened.now.head in
    let opened = c.args.opened.now in
    all_can_step sizes c.in_ok-zones.zones
    (first_reached sizes c.args.requests opened c.requires c.in_ok-zones.zones (c.in_ok-zones.ensures (bare sizes c.args.requests opened) (is_of sizes c.args.requests opened c.requires)))

pub of-notes-requires-clause-few : goal.of-notes-requires-clause-few
of-notes-requires-clause-few c =
    let sizes = sizes_of c.args.setup.now c.args.opened.now.head in
    let opened = c.args.opened.now in
    few_zones sizes c.in_ok-zones.zones
    (first_reached sizes c.args.requests opened c.requires c.in_ok-zones.zones (c.in_ok-zones.ensures (bare sizes c.args.requests opened) (is_of sizes c.args.requests opened c.requires)))

pub invariant_of-result : goal.invariant_of-result
invariant_of-result c =
    let sizes = sizes_of c.args.setup.now c.args.opened.now.head in
    let opened = c.args.opened.now in
    record {
      whole = record {
        reached = first_reached sizes c.args.requests opened c.requires c.in_ok-zones.zones (c.in_ok-zones.ensures (bare sizes c.args.requests opened) (is_of sizes c.args.requests opened c.requires));
        has_room = c.in_ok-room.ensures;
      };
      known = c.of-notes.ensures;
    }
