use Rattle.std.proofs.Common.{List, ◌∙◌, ◌+◌, subst, sym, arith, length, ◌<◌, set}
use Rattle.std.proofs.lemmas.List.{length-set}
use Rattle.std.specs.Option.{IfSome}
use Rattle.slab_writes.specs.Writes.{Writes}
use Rattle.slab_writes.specs.declared.forms.SlabWork.{SlabWork}
use Rattle.slab_zone.specs.ZoneWrites.{IsDueAmong, NoneDueBefore}
use Rattle.slab_zone.proofs.DueLaws.{due_here, still_here, none_here}
use Rattle.slab_zone.proofs.due_writes.first_due.Goals as goal

pub returns-then-is_some-clause-some : goal.returns-then-is_some-clause-some
returns-then-is_some-clause-some c =
    let k = c.loop-place.place in
    let old = c.loop-place.writes.items in
    let inside : k < length old = omega (arith, c.loop-place.writes.ok, c.loop-place-test.true, c.len.ensures) in
    subst (λ (ws : List Writes). IfSome c.due-work.result (λ (w : SlabWork). IsDueAmong c.args.need c.args.counts.now.slabs ws (set old k c.due-work.new.self) c.due-work.new.into w)) c.loop-place.invariant.same
    (due_here c.args.need c.args.counts.now.slabs old k c.index_mut-slab.result.now c.due-work.new.self c.counters.result.now c.due-work.new.into c.due-work.result inside c.index_mut-slab.ensures.value
    c.counters.ensures.value c.loop-place.invariant.none c.due-work.ensures.some)

pub loop-place-preserved : goal.loop-place-preserved
loop-place-preserved c =
    let k = c.loop-place.place in
    let old = c.loop-place.writes.items in
    let s = c.index_mut-slab.result.now in
    let inside : k < length old = omega (arith, c.loop-place.writes.ok, c.loop-place-test.true, c.len.ensures) in
    let none = sym c.is_some.ensures ∙ c.if-is_some.false in
    let still = still_here old k s c.due-work.new.self c.due-work.result none inside c.index_mut-slab.ensures.value c.due-work.ensures.same in
    let more = none_here c.args.need old k s c.due-work.result none inside c.index_mut-slab.ensures.value c.due-work.ensures.none c.loop-place.invariant.none in
    record {
      same = still ∙ c.loop-place.invariant.same;
      none = subst (λ (ws : List Writes). NoneDueBefore c.args.need ws (k + 1)) (sym still) more;
      within = omega (arith, inside, length-set old k c.due-work.new.self);
    }
