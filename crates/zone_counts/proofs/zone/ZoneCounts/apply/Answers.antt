use Rattle.std.proofs.Common.{◌<◌, List, length, sym, subst, refl}
use Rattle.slab_counts.specs.Counts.{Counts, IsOfSlab, Takes}
use Rattle.slab_counts.specs.Operations.{Applied}
use Rattle.zone_counts.specs.Viewed.{zone_of}
use Rattle.zone_counts.specs.Zone.{slab_at}
use Rattle.zone_counts.proofs.PlaceLaws.{slab_now, changes_now}
use Rattle.zone_counts.proofs.SlabLaws.{still, only_applied}
use Rattle.zone_counts.proofs.ZoneLaws.{read_as, within_read, served}
use Rattle.zone_counts.proofs.zone.ZoneCounts.apply.Goals as goal

pub invariant_of-self-2 : goal.invariant_of-self-2
invariant_of-self-2 c =
    let z = zone_of c.self.inside in
    let k = c.index_of-place.result in
    let s = c.index_mut-slab.result.now in
    let now = c.apply.new.self in
    let at = c.args.at in
    let half = c.args.half in
    let is = c.self.invariant.is in
    let below = c.self.invariant.below in
    let read = c.index_mut-slab.ensures.value in
    let inside = subst (λ (xs : List Counts). k < length xs) c.deref.ensures.value c.index_of-place.ensures.inside in
    let within = within_read z c.self.inside.cursor k s now is below inside read in
    let at_place = read_as z c.self.inside.cursor k s now is below inside read in
    let here : IsOfSlab s at
    = subst (λ (x : Counts). IsOfSlab x at) (sym at_place) (subst (λ (xs : List Counts). IsOfSlab (slab_at xs k) at) c.deref.ensures.value c.index_of-place.ensures.slab) in
    record {
      is = served z c.self.inside.cursor k s now is below inside read c.serve.new.slabs.items c.serve.new.tickets at
          (still (Applied half at) s now within (here, c.in_ok-apply.ensures.taken)) (only_applied half s now at within here c.in_ok-apply.ensures.taken) c.serve.ensures.serves;
      below = c.serve.ensures.below;
    }

pub returns-clause-taken : goal.returns-clause-taken
returns-clause-taken c =
    let z = zone_of c.self.inside in
    let k = c.index_of-place.result in
    let s = c.index_mut-slab.result.now in
    let now = c.apply.new.self in
    let at = c.args.at in
    let half = c.args.half in
    let is = c.self.invariant.is in
    let below = c.self.invariant.below in
    let read = c.index_mut-slab.ensures.value in
    let inside = subst (λ (xs : List Counts). k < length xs) c.deref.ensures.value c.index_of-place.ensures.inside in
    let at_place = read_as z c.self.inside.cursor k s now is below inside read in
    let slab = slab_now z c.args.self.now c.self.view_is k s at at refl c.index_of-place.ensures.place at_place in (
      now,
      subst (λ (x : Counts). Takes half x now at) slab c.in_ok-apply.ensures.taken,
      changes_now z c.args.self.now c.self.view_is k s at at refl c.index_of-place.ensures.place at_place now c.serve.new.slabs.items c.serve.new.tickets c.serve.ensures.serves,
    )
