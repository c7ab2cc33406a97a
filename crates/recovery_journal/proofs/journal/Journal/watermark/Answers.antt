use Rattle.std.proofs.Common.{◌≡◌, ◌≤◌, ◌-◌, ◌∙◌, List, ap, subst, sym, arith}
use Rattle.std.specs.Vec.{with_items}
use Rattle.std.proofs.lemmas.List.{with_items_is}
use Rattle.blk_base.specs.Points.{raised}
use Rattle.blk_base.specs.declared.point.Point.{Point}
use Rattle.recovery_journal.specs.contracts.journal.Journal.{the_view}
use Rattle.recovery_journal.specs.Log.{Log, head_of, Advances}
use Rattle.recovery_journal.specs.Kept.{IsKept}
use Rattle.recovery_journal.proofs.JournalLaws.{Found, found_as, only_handed, kept_advanced, head_rises, advances, advanced, advanced_as}
use Rattle.recovery_journal.proofs.journal.Journal.watermark.Goals as goal

-- the watermarks after the report
risen : (c : goal.After-leave_out) → (with_items c.self.inside.watermarks c.raise.new.points).items ≡ raised c.self.inside.watermarks.items c.args.zone c.args.point
risen c =
    with_items_is c.self.inside.watermarks c.raise.new.points (omega (arith, c.raise.auto.points, c.deref_mut.ensures.len)) ∙ c.raise.ensures
    ∙ ap (λ (watermarks : List Point). raised watermarks c.args.zone c.args.point) c.deref_mut.ensures.value

found : (c : goal.After-leave_out) → Found (the_view c.self.inside) c.args.zone c.args.point c.count_durable-durable.result
found c =
    let size = c.self.inside.entries.ok in
    found_as (the_view c.self.inside) c.args.self.now c.args.zone c.args.point c.count_durable-durable.result c.deref.result.now c.self.view_is
    (c.deref.ensures.value ∙ risen c) c.requires.zone c.requires.handed
    (omega (arith, c.count_durable-durable.ensures.inside)) c.count_durable-durable.ensures.durable c.count_durable-durable.ensures.next

pub overflow_sub-self : goal.overflow_sub-self
overflow_sub-self c = only_handed (the_view c.self.inside) c.args.zone c.args.point c.count_durable-durable.result c.self.invariant.kept (found c)

after : (c : goal.After-leave_out)
    → record (the_view c.self.inside) { entries = c.leave_out.new.entries.items; handed = c.self.inside.handed - c.count_durable-durable.result; watermarks = (with_items c.self.inside.watermarks c.raise.new.points).items }
    ≡ advanced (the_view c.self.inside) c.args.zone c.args.point c.count_durable-durable.result
after c = advanced_as (the_view c.self.inside) c.args.zone c.args.point c.count_durable-durable.result _ c.leave_out.new.entries.items (risen c) c.leave_out.ensures.items

pub invariant_of-self : goal.invariant_of-self
invariant_of-self c = record {
  kept = subst (λ (log : Log). IsKept log) (sym (after c.before))
      (kept_advanced (the_view c.self.inside) c.args.zone c.args.point c.count_durable-durable.result c.self.invariant.kept (found c.before));
  room = omega (arith, c.leave_out.ensures.capacity, c.self.invariant.room);
}

pub returns-clause-advances : goal.returns-clause-advances
returns-clause-advances c =
    subst (λ (new : Log). Advances c.args.self.now new c.args.zone c.args.point) (sym (after c.before))
    (subst (λ (old : Log). Advances old (advanced (the_view c.self.inside) c.args.zone c.args.point c.count_durable-durable.result) c.args.zone c.args.point) c.self.view_is
    (advances (the_view c.self.inside) c.args.zone c.args.point c.count_durable-durable.result c.self.invariant.kept (found c.before)))

pub returns-clause-head : goal.returns-clause-head
returns-clause-head c =
    subst (λ (new : Log). head_of c.args.self.now ≤ head_of new) (sym (after c.before))
    (subst (λ (old : Log). head_of old ≤ head_of (advanced (the_view c.self.inside) c.args.zone c.args.point c.count_durable-durable.result)) c.self.view_is
    (head_rises (the_view c.self.inside) c.args.zone c.args.point c.count_durable-durable.result c.self.invariant.kept (found c.before)))
