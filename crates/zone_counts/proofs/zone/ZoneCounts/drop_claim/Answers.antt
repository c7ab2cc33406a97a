use Rattle.std.proofs.Common.{◌<◌, ◌∙◌, ap, List, length, subst}
use Rattle.slab_counts.specs.Counts.{Counts, unclaimed}
use Rattle.slab_counts.specs.Operations.{Dropped}
use Rattle.zone_counts.specs.Viewed.{zone_of}
use Rattle.zone_counts.specs.Zone.{Changes}
use Rattle.zone_counts.proofs.PlaceLaws.{slab_now, claimed_now, changes_now}
use Rattle.zone_counts.proofs.SlabLaws.{still, only_dropped}
use Rattle.zone_counts.proofs.ZoneLaws.{read_as, within_read, served}
use Rattle.zone_counts.proofs.zone.ZoneCounts.drop_claim.Goals as goal

pub invariant_of-self : goal.invariant_of-self
invariant_of-self c =
    let z = zone_of c.self.inside in
    let k = c.index_of-place.result in
    let s = c.index_mut-slab.result.now in
    let now = c.drop_claim.new.self in
    let is = c.self.invariant.is in
    let below = c.self.invariant.below in
    let read = c.index_mut-slab.ensures.value in
    let inside = subst (λ (xs : List Counts). k < length xs) c.deref.ensures.value c.index_of-place.ensures.inside in
    let within = within_read z c.self.inside.cursor k s now is below inside read in
    let claimed = claimed_now z c.args.self.now c.self.view_is k s c.args.claim c.block.result c.block.ensures c.index_of-place.ensures.place
    (read_as z c.self.inside.cursor k s now is below inside read) c.deref.result.now c.deref.ensures.value c.index_of-place.ensures.slab c.requires in
    record {
      is = served z c.self.inside.cursor k s now is below inside read c.serve.new.slabs.items c.serve.new.tickets c.args.claim
          (still (Dropped c.args.claim) s now within (claimed, c.drop_claim.ensures)) (only_dropped s now c.args.claim within claimed c.drop_claim.ensures) c.serve.ensures.serves;
      below = c.serve.ensures.below;
    }

pub returns : goal.returns
returns c =
    let z = zone_of c.self.inside in
    let k = c.index_of-place.result in
    let s = c.index_mut-slab.result.now in
    let now = c.drop_claim.new.self in
    let is = c.self.invariant.is in
    let below = c.self.invariant.below in
    let read = c.index_mut-slab.ensures.value in
    let inside = subst (λ (xs : List Counts). k < length xs) c.deref.ensures.value c.index_of-place.ensures.inside in
    let at_place = read_as z c.self.inside.cursor k s now is below inside read in
    let slab = slab_now z c.args.self.now c.self.view_is k s c.args.claim c.block.result c.block.ensures c.index_of-place.ensures.place at_place in
    subst (λ (x : Counts). Changes c.args.self.now (record z { slabs = c.serve.new.slabs.items; desk = c.serve.new.tickets }) c.args.claim x) (c.drop_claim.ensures ∙ ap (λ (x : Counts). unclaimed x c.args.claim) slab)
    (changes_now z c.args.self.now c.self.view_is k s c.args.claim c.block.result c.block.ensures c.index_of-place.ensures.place at_place now c.serve.new.slabs.items c.serve.new.tickets
    c.serve.ensures.serves)
