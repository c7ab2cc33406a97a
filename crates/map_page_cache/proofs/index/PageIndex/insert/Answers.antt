use Rattle.std.specs.Prelude.{HoldsAt}
use Rattle.std.specs.List.Sorted.{IsPartitionPoint}
use Rattle.std.proofs.Common.{◌≡◌, ◌<◌, ◌≤◌, List, length, get_or, sym, subst, arith, refl}
use Rattle.map_page_cache.specs.Index.{Index, HasSlot, IsBefore, IsBehind, Adds, AreInOrder}
use Rattle.map_page_cache.specs.declared.index.IndexEntry.{IndexEntry}
use Rattle.map_page_cache.proofs.IndexLaws.{adds, order-insert, slot_at}
use Rattle.map_page_cache.proofs.index.PageIndex.insert.Goals as goal

pub unreachable-requires : goal.unreachable-requires
unreachable-requires c =
    let entries = c.self.inside.entries.items in
    let index : Index = record { room = c.self.inside.room; entries = entries } in
    let d : IndexEntry = record { page = c.args.page; slot = 0 } in
    let place = c.in-Ok.field-0 in
    let inside = subst (λ (es : List IndexEntry). place < length es) c.deref.ensures.value c.in-Ok.ensures.bound in
    let found = subst (λ (es : List IndexEntry). HoldsAt (λ (e : IndexEntry). e.page ≡ c.args.page) es place) c.deref.ensures.value c.in-Ok.ensures.found in
    let slot = (get_or entries place d).slot in
    c.requires.absent slot (subst (λ (i : Index). HasSlot i c.args.page slot) c.self.view_is (slot_at index c.args.page place slot d inside found refl))

pub invariant_of-self : goal.invariant_of-self
invariant_of-self c =
    let entry : IndexEntry = record { page = c.args.page; slot = c.args.slot } in
    let inside = subst (λ (es : List IndexEntry). c.in-Err.place ≤ length es) c.deref.ensures.value c.in-Err.ensures.bound in
    let gap = subst (λ (es : List IndexEntry). IsPartitionPoint (IsBefore c.args.page) (IsBehind c.args.page) es c.in-Err.place) c.deref.ensures.value c.in-Err.ensures.gap in
    record {
      room = omega (arith, c.self.invariant.room, c.insert.ensures.capacity);
      order = subst (λ (es : List IndexEntry). AreInOrder es) (sym c.in-Ok-insert.ensures.items)
          (order-insert c.self.inside.entries.items c.in-Err.place entry c.self.invariant.order inside gap);
    }

pub returns : goal.returns
returns c =
    let inside = subst (λ (es : List IndexEntry). c.in-Err.place ≤ length es) c.deref.ensures.value c.in-Err.ensures.bound in
    let gap = subst (λ (es : List IndexEntry). IsPartitionPoint (IsBefore c.args.page) (IsBehind c.args.page) es c.in-Err.place) c.deref.ensures.value c.in-Err.ensures.gap in
    subst (λ (es : List IndexEntry). Adds c.args.self.now (record { room = c.self.inside.room; entries = es }) c.args.page c.args.slot)
    (sym c.in-Ok-insert.ensures.items)
    (adds c.self.inside.room c.in-Err.place c.args.slot c.self.inside.entries.items c.args.page c.args.self.now c.self.view_is inside gap)
