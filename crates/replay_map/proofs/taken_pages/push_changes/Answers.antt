use Rattle.std.proofs.Common.{◌≡◌, ◌∙◌, [], ◌∷◌, ◌++◌, sym, subst, ap, List, map, append-nil, append_assoc}
use Rattle.std.proofs.lemmas.Map.Iter.{rest_all, rest_more}
use Rattle.std.specs.Map.Iter.{deref_pair}
use Rattle.blk_base.specs.declared.place.Mapping.{Mapping}
use Rattle.blk_base.specs.declared.place.PageId.{PageId}
use Rattle.blk_base.specs.declared.sizes.TheConstants.{PAGE_SLOTS}
use Rattle.replay_map.specs.Forms.{as_found, changes_in}
use Rattle.replay_map.specs.Taken.{AreChanges, Gained}
use Rattle.replay_map.proofs.PutLaws.{AreOwn, are_own, listed_gained}
use Rattle.replay_map.specs.declared.changes.SlotId.{SlotId}
use Rattle.replay_map.specs.declared.found.SlotChange.{SlotChange}
use Rattle.replay_map.proofs.taken_pages.push_changes.Goals as goal

pub loop-id-init : goal.loop-id-init
loop-id-init c =
    let slots = c.args.slots.now.items in
    let own = c.of_page-id-items.result in
    let listed = c.of_page-id-items.ensures.listed in
    subst (λ (xs : List (SlotId × Mapping)). record {
      own : AreOwn c.args.changes.now c.args.page xs;
      pushed : slots ++ map as_found xs ≡ slots ++ changes_in c.args.changes.now c.args.page PAGE_SLOTS;
    }) (sym c.into_iter-id-iterator.ensures.into_iter_gives)
    (record { own = are_own c.args.changes.now own c.args.page listed; pushed = ap (λ (xs : List SlotChange). slots ++ xs) listed })

pub loop-id-preserved : goal.loop-id-preserved
loop-id-preserved c =
    let id = c.in-Some.id.now in
    let mapping = c.in-Some.mapping.now in
    let rest = c.next.new.self in
    let old = c.loop-id.slots.items in
    let is = rest_more deref_pair c.loop-id.id-iterator rest c.next.result (c.in-Some.id, c.in-Some.mapping) c.in-Some.is c.next.ensures.steps in
    let own = subst (λ (xs : List (SlotId × Mapping)). AreOwn c.args.changes.now c.args.page xs) is c.loop-id.invariant.own in
    let change : SlotChange = record { page = c.args.page; slot = id.slot; mapping = mapping } in
    let same : change ≡ as_found (id, mapping) = ap (λ (p : PageId). record { page = p; slot = id.slot; mapping = mapping }) (sym own.0.0) in
    record {
      own = own.1;
      pushed =
          ap (λ (xs : List SlotChange). xs ++ map as_found rest) c.in_ok-push.ensures.items ∙ append_assoc old (change ∷ []) (map as_found rest)
          ∙ ap (λ (x : SlotChange). old ++ x ∷ map as_found rest) same ∙ ap (λ (xs : List (SlotId × Mapping)). old ++ map as_found xs) (sym is) ∙ c.loop-id.invariant.pushed;
    }

pub returns-clause-exact : goal.returns-clause-exact
returns-clause-exact c =
    let none = rest_all deref_pair c.loop-id.id-iterator c.next.new.self c.next.result c.in-None.is c.next.ensures.steps in
    sym (append-nil c.loop-id.slots.items) ∙ ap (λ (xs : List (SlotId × Mapping)). c.loop-id.slots.items ++ map as_found xs) (sym none) ∙ c.loop-id.invariant.pushed

pub returns-clause-gained : goal.returns-clause-gained
returns-clause-gained c =
    let none = rest_all deref_pair c.loop-id.id-iterator c.next.new.self c.next.result c.in-None.is c.next.ensures.steps in
    let exact : c.loop-id.slots.items ≡ c.args.slots.now.items ++ changes_in c.args.changes.now c.args.page PAGE_SLOTS =
    sym (append-nil c.loop-id.slots.items) ∙ ap (λ (xs : List (SlotId × Mapping)). c.loop-id.slots.items ++ map as_found xs) (sym none) ∙ c.loop-id.invariant.pushed in
    subst (λ (xs : List SlotChange). Gained c.args.slots.now.items xs (AreChanges c.args.changes.now c.args.page PAGE_SLOTS)) (sym exact)
    (listed_gained c.args.changes.now c.args.page PAGE_SLOTS c.args.slots.now.items)
