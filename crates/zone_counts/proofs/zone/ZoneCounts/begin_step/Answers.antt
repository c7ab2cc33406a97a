use Rattle.std.proofs.Common.{ap, sym, subst, ◌∙◌, List}
use Rattle.slab_counts.specs.Counts.{Counts}
use Rattle.slab_tickets.specs.Tickets.{Desk, begun}
use Rattle.zone_counts.specs.Viewed.{zone_of}
use Rattle.zone_counts.specs.Zone.{Zone, NoneFree}
use Rattle.zone_counts.proofs.zone.ZoneCounts.begin_step.Goals as goal

pub returns : goal.returns
returns c =
    let z = zone_of c.self.inside in
    let free = c.has_free-is_free.result in (
      free,
      record {
        some = λ is none. c.has_free-is_free.ensures.yes is (subst (λ (x : Zone). NoneFree x.slabs) (sym c.self.view_is) none);
        none = λ is. subst (λ (x : Zone). NoneFree x.slabs) c.self.view_is (c.has_free-is_free.ensures.no is);
        after = ap (λ (xs : List Counts). record z { slabs = xs; desk = c.begin_step.new.self }) c.has_free-is_free.ensures.same
            ∙ ap (λ (d : Desk). record z { desk = d }) c.begin_step.ensures ∙ ap (λ (x : Zone). record x { desk = begun free c.args.step x.desk }) c.self.view_is;
      },
    )
