use Rattle.std.proofs.Common.{◌+◌, ◌∙◌, List, subst, sym}
use Rattle.slab_writes.specs.Writes.{Writes}
use Rattle.slab_zone.specs.Whole.{AreOpenedWrites}
use Rattle.slab_zone.proofs.OpeningLaws.{opened_more}
use Rattle.slab_zone.proofs.opened_zone.opening_writes.Goals as goal

pub loop-k-preserved : goal.loop-k-preserved
loop-k-preserved c =
    record {
      opened = subst (λ (ws : List Writes). AreOpenedWrites c.args.opened.now c.args.zone c.args.zones (c.loop-k.k + 1) ws) (sym c.push_reserved.ensures.items)
          (opened_more c.args.opened.now c.args.zone c.args.zones c.loop-k.k c.loop-k.writes.items c.in_ok-slab.slab c.loop-k.invariant.opened c.in_ok-slab.ensures.opening);
      capacity = c.push_reserved.ensures.capacity ∙ c.loop-k.invariant.capacity;
    }
