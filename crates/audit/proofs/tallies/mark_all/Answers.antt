use Rattle.std.proofs.Common.{◌<◌, length, arith}
use Rattle.audit.proofs.TallyLaws.{none_tallied, page_tallied}
use Rattle.audit.proofs.tallies.mark_all.Goals as goal

pub loop-link-init : goal.loop-link-init
loop-link-init c = none_tallied c.args.layout.now.geometry c.args.counts.now c.requires

pub loop-link-preserved : goal.loop-link-preserved
loop-link-preserved c =
    let inside : c.loop-link.link-index < length c.args.links.now = omega arith in
    page_tallied _ _ c.loop-link.link-index _ _ _ inside c.loop-link.invariant c.mark.ensures
