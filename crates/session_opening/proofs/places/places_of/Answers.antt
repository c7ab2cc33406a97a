use Rattle.std.proofs.Common.{◌<◌, length, arith}
use Rattle.session_opening.proofs.PlaceLaws.{placed_next}
use Rattle.session_opening.proofs.places.places_of.Goals as goal

pub loop-link-preserved : goal.loop-link-preserved
loop-link-preserved c =
    let inside : c.loop-link.link-index < length c.args.links.now = omega arith in
    placed_next _ c.loop-link.link-index _ _ _ inside c.loop-link.invariant c.in_ok-add.ensures
