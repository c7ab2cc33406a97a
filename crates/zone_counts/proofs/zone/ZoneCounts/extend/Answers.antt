use Rattle.std.proofs.Common.{◌<◌, List, length, subst}
use Rattle.slab_counts.specs.Counts.{Counts}
use Rattle.zone_counts.specs.Viewed.{zone_of}
use Rattle.zone_counts.proofs.PlaceLaws.{claimed_now}
use Rattle.zone_counts.proofs.SlabLaws.{busier_extended}
use Rattle.zone_counts.proofs.ZoneLaws.{read_as, within_read, busier}
use Rattle.zone_counts.proofs.zone.ZoneCounts.extend.Goals as goal

pub invariant_of-self : goal.invariant_of-self
invariant_of-self c =
    let z = zone_of c.self.inside in
    let k = c.index_of-place.result in
    let s = c.index_mut-slab.result.now in
    let now = c.extend.new.self in
    let is = c.self.invariant.is in
    let below = c.self.invariant.below in
    let read = c.index_mut-slab.ensures.value in
    let inside = subst (λ (xs : List Counts). k < length xs) c.deref.ensures.value c.index_of-place.ensures.inside in
    let within = within_read z c.self.inside.cursor k s now is below inside read in
    let claimed = claimed_now z c.args.self.now c.self.view_is k s c.args.claim.now c.block.result c.block.ensures c.index_of-place.ensures.place
    (read_as z c.self.inside.cursor k s now is below inside read) c.deref.result.now c.deref.ensures.value c.index_of-place.ensures.slab c.requires in
    let kept = busier z c.self.inside.cursor k s now is below inside read
    (busier_extended c.extend.result s now c.args.claim.now within claimed c.extend.ensures.room c.extend.ensures.extended c.extend.ensures.same) in
    record { is = kept.0; below = kept.1 }
