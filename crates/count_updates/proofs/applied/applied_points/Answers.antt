use Rattle.std.proofs.Common.{◌≡◌, ◌∙◌, ℕ, ◌+◌, ◌*◌, ◌<◌, List, length, take, sym, ap, subst, arith}
use Rattle.std.proofs.lemmas.List.{with_items_is}
use Rattle.blk_base.specs.Counters.{sectors_per_slab}
use Rattle.blk_base.specs.declared.point.Point.{Point}
use Rattle.count_updates.specs.Applied.{AreApplied}
use Rattle.count_updates.proofs.AppliedLaws.{none_of_list, one_of_list}
use Rattle.count_updates.proofs.applied.applied_points.Goals as goal
use Rattle.count_updates.proofs.applied.applied_points.Goals.{in-Some, in-None}

pub loop-update-preserved : goal.loop-update-preserved
loop-update-preserved c =
    let is = c.deref-update-items.ensures.value in
    let were = c.loop-update.invariant in
    let inside : c.loop-update.update-index < length c.deref-update-items.result.now = omega arith in
    elim c.match-place.branch [
      | in-None w ↦ rw w.applied-is (none_of_list _ _ _ is c.loop-update.update-index _ inside _ _ were w.in-None.ensures.none)
      | in-Some w ↦
          let found = w.in-Some.ensures.some in
          let size : length w.raise.new.points ≡ c.loop-update.applied.len = omega (arith, w.raise.auto.points, w.deref_mut.ensures.len) in
          rw w.applied-is (subst (λ (points : List Point). AreApplied c.args.layout.now.geometry (take (c.loop-update.update-index + 1) c.args.found.now.updates.items) c.args.found.now.commits.items points)
          (sym (with_items_is c.loop-update.applied w.raise.new.points size ∙ w.raise.ensures))
          (rw w.deref_mut.ensures.value
          (one_of_list _ _ _ is c.loop-update.update-index _ inside _ _ were w.in-Some.place _ found.0 found.1 (w.sector_number-sector.ensures.number ∙ ap (λ (m : ℕ). w.in-Some.place.slab * sectors_per_slab c.args.layout.now.geometry + m) w.sector_of_offset.ensures))))
    ]
