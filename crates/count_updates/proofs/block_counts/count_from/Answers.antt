use Rattle.std.proofs.Common.{◌≡◌, ◌∙◌, ◌<◌, ◌≤◌, sym, ap, arith, refl, drop, length, List, []}
use Rattle.std.proofs.lemmas.List.{drop_all}
use Rattle.blk_base.specs.declared.journal_entry.Update.{Update}
use Rattle.image_model.specs.Counts.{count_after}
use Rattle.count_updates.proofs.PointLaws.{points_above, is_counted, one_taken, one_leaves, one_passed, from_fits, from_past, not_both}
use Rattle.count_updates.proofs.block_counts.count_from.Goals as goal
use Rattle.count_updates.proofs.block_counts.count_from.Goals.{then-update-at+then-update-applied+in-Some, else-update-at, else-update-at-via-then-update-at+else-update-applied, else-update-at-via-else-update-at}

pub returns-then-count-limit-clause-left : goal.returns-then-count-limit-clause-left
returns-then-count-limit-clause-left c =
    let past : c.args.limit < c.args.counter = omega (arith, c.if-count-limit.true, c.from-count.ensures) in
    is_counted _ _ _ _ _ _ c.requires.order (from_past c.args.limit c.args.commit.0 c.args.counter (points_above c.args.at.0 c.args.commit.0 c.args.updates.now) past)

pub loop-update-init : goal.loop-update-init
loop-update-init c = rw c.from-count.ensures refl

pub returns-in-None-clause-left : goal.returns-in-None-clause-left
returns-in-None-clause-left c =
    let fits : c.args.counter ≤ c.args.limit = omega (arith, c.if-count-limit.false, c.from-count.ensures) in
    let inside : c.loop-update.update-index < length c.args.updates.now = omega arith in
    is_counted _ _ _ _ _ _ c.requires.order
    (from_fits c.args.limit c.args.commit.0 c.args.counter (points_above c.args.at.0 c.args.commit.0 c.args.updates.now) fits
    ∙ one_leaves _ _ _ c.loop-update.update-index _ c.args.updates.now _ inside _ c.loop-update.invariant c.if-update-at.true c.if-update-applied.true c.in-None.ensures.none)

pub loop-update-preserved : goal.loop-update-preserved
loop-update-preserved c =
    let inside : c.loop-update.update-index < length c.args.updates.now = omega arith in
    elim c.if-update-at.branch [
      | then-update-at+then-update-applied+in-Some w ↦
          rw (w.count-is, w.applied-is) (one_taken _ _ _ c.loop-update.update-index _ c.args.updates.now _ inside _ c.loop-update.invariant _ w.if-update-at.true w.if-update-applied.true w.in-Some.ensures.some)
      | else-update-at w ↦ elim w.else-update-at.branch [
        | else-update-at-via-then-update-at+else-update-applied v ↦
            let not_more = v.if-update-applied.false in
            rw (w.count-is, w.applied-is) (one_passed _ _ _ c.loop-update.update-index _ c.args.updates.now _ inside _ c.loop-update.invariant (λ same more. not_both _ _ not_more more))
        | else-update-at-via-else-update-at v ↦
            rw (w.count-is, w.applied-is) (one_passed _ _ _ c.loop-update.update-index _ c.args.updates.now _ inside _ c.loop-update.invariant (λ same more. v.if-update-at.false same))
      ]
    ]

pub returns-clause-counted : goal.returns-clause-counted
returns-clause-counted c =
    let fits : c.args.counter ≤ c.args.limit = omega (arith, c.if-count-limit.false, c.from-count.ensures) in
    let none : drop c.loop-update.update-index c.args.updates.now ≡ [] = drop_all _ _ c.loop-update-test.false in
    is_counted _ _ _ _ _ _ c.requires.order
    (from_fits c.args.limit c.args.commit.0 c.args.counter (points_above c.args.at.0 c.args.commit.0 c.args.updates.now) fits
    ∙ sym c.loop-update.invariant ∙ ap (λ (us : List Update). count_after c.args.limit c.loop-update.count (points_above c.args.at.0 c.loop-update.applied.0 us)) none)
