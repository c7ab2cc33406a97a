use Rattle.std.specs.Prelude.{HoldsAt}
use Rattle.std.proofs.Common.{◌≡◌, ◌<◌, List, length, sym, subst, arith}
use Rattle.map_page_cache.specs.Index.{Removes, AreInOrder}
use Rattle.map_page_cache.specs.declared.index.IndexEntry.{IndexEntry}
use Rattle.map_page_cache.proofs.IndexLaws.{removes, order-remove}
use Rattle.map_page_cache.proofs.index.PageIndex.remove.Goals as goal

pub invariant_of-self : goal.invariant_of-self
invariant_of-self c =
    let inside = subst (λ (es : List IndexEntry). c.in-Ok.place < length es) c.deref.ensures.value c.in-Ok.ensures.bound in
    record {
      room = omega (arith, c.self.invariant.room, c.remove-entry.ensures.capacity);
      order = subst (λ (es : List IndexEntry). AreInOrder es) (sym c.remove-entry.ensures.items)
          (order-remove c.self.inside.entries.items c.in-Ok.place c.self.invariant.order inside);
    }

pub returns : goal.returns
returns c =
    let inside = subst (λ (es : List IndexEntry). c.in-Ok.place < length es) c.deref.ensures.value c.in-Ok.ensures.bound in
    let found = subst (λ (es : List IndexEntry). HoldsAt (λ (e : IndexEntry). e.page ≡ c.args.page) es c.in-Ok.place) c.deref.ensures.value c.in-Ok.ensures.found in
    subst (λ (es : List IndexEntry). Removes c.args.self.now (record { room = c.self.inside.room; entries = es }) c.args.page)
    (sym c.remove-entry.ensures.items)
    (removes c.self.inside.room c.in-Ok.place c.self.inside.entries.items c.args.page c.args.self.now c.self.view_is c.self.invariant.order inside found)
