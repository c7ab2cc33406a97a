use Rattle.std.proofs.Common.{◌<◌, List, length, subst}
use Rattle.slab_counts.specs.Counts.{Counts}
use Rattle.zone_counts.specs.Viewed.{zone_of}
use Rattle.zone_counts.proofs.SlabLaws.{busier_shared}
use Rattle.zone_counts.proofs.ZoneLaws.{within_read, busier}
use Rattle.zone_counts.proofs.zone.ZoneCounts.claim_share.Goals as goal

pub invariant_of-self : goal.invariant_of-self
invariant_of-self c =
    let z = zone_of c.self.inside in
    let k = c.in-Some.place in
    let s = c.index_mut-slab.result.now in
    let now = c.claim_share.new.self in
    let inside = subst (λ (xs : List Counts). k < length xs) c.deref.ensures.value c.in-Some.ensures.inside in
    let is = c.self.invariant.is in
    let read = c.index_mut-slab.ensures.value in
    let within = within_read z c.self.inside.cursor k s now is c.self.invariant.below inside read in
    let kept = busier z c.self.inside.cursor k s now is c.self.invariant.below inside read
    (busier_shared c.claim_share.result s now c.args.at within c.claim_share.ensures.shared c.claim_share.ensures.same) in
    record { is = kept.0; below = kept.1 }
