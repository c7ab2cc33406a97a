use Rattle.std.proofs.Common.{◌≤◌, List, length, subst, sym}
use Rattle.slab_counts.specs.Counts.{Counts}
use Rattle.zone_counts.proofs.UsedLaws.{few_slabs}
use Rattle.zone_counts.proofs.zone.ZoneCounts.used.Goals as goal

pub used_in-requires : goal.used_in-requires
used_in-requires c =
    subst (λ (xs : List Counts). length xs ≤ 1024) (sym c.deref.ensures.value)
    (few_slabs c.self.inside.layout.geometry c.self.inside.zone c.self.inside.zones c.self.inside.slabs.items c.self.invariant.is.slabs)
