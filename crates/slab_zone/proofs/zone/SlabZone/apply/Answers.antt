use Rattle.std.proofs.Common.{subst, sym, arith}
use Rattle.zone_counts.specs.Operations.{Applies}
use Rattle.zone_counts.specs.Zone.{IsOfZone}
use Rattle.slab_zone.specs.Viewed.{whole_of}
use Rattle.slab_zone.specs.Whole.{WholeZone}
use Rattle.slab_zone.proofs.ShapeLaws.{call_keeps}
use Rattle.slab_zone.proofs.KeptLaws.{block_of_slab, taken_keeps}
use Rattle.slab_zone.proofs.zone.SlabZone.apply.Goals as goal

pub take-requires-clause-place : goal.take-requires-clause-place
take-requires-clause-place c =
    let z = whole_of c.self.inside in
    let own = subst (λ (x : WholeZone). IsOfZone x.counts c.args.update.now.at) (sym c.self.view_is) c.requires.own in
    block_of_slab z c.args.update.now.at c.place-place.result c.index_mut-slab.result.now c.self.invariant own c.place-place.ensures.place c.index_mut-slab.ensures.value

pub invariant_of-self-2 : goal.invariant_of-self-2
invariant_of-self-2 c =
    let z = whole_of c.self.inside in
    let at = c.args.update.now.at in
    let own = subst (λ (x : WholeZone). IsOfZone x.counts at) (sym c.self.view_is) c.requires.own in
    let did = c.in_ok-apply.ensures.taken in
    let counted = call_keeps (Applies c.half.result at did.0) z c.apply.new.self c.self.invariant (own, did.1, did.2) in
    taken_keeps (record { counts = c.apply.new.self; writes = z.writes }) c.place-place.result c.index_mut-slab.result.now c.take.new.self c.args.update.now counted
    (omega (arith, c.place-place.ensures.inside, c.self.invariant.writes.many)) c.index_mut-slab.ensures.value c.take.ensures
