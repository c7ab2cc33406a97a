use Rattle.std.proofs.Common.{◌≡◌, sym, subst, refl, List, arith, length, slice_set}
use Rattle.std.proofs.lemmas.List.{get_or-set_other, get_or-set_same, length-set}
use Rattle.std.proofs.lemmas.Map.Iter.{rest_all, rest_more}
use Rattle.std.specs.Map.Iter.{deref_pair}
use Rattle.blk_base.specs.declared.place.Mapping.{Mapping}
use Rattle.blk_base.specs.declared.place.Mapping.TheVariants.{Unmapped}
use Rattle.replay_map.proofs.PutLaws.{AreOwn, ArePutBut, are_own, itself, mapping_at, none_put, one_put}
use Rattle.replay_map.specs.declared.changes.SlotId.{SlotId}
use Rattle.replay_map.proofs.pages.put_over.Goals as goal

pub loop-id-init : goal.loop-id-init
loop-id-init c =
    let changes = c.args.changes.now in
    let own = c.of_page-id-items.result in
    let is = c.of_page-id-items.ensures in
    subst (λ (xs : List (SlotId × Mapping)). record {
      own : AreOwn changes c.args.page xs;
      put : ArePutBut mapping_at itself changes c.args.page xs c.args.into.now c.args.into.now;
    }) (sym c.into_iter-id-iterator.ensures.into_iter_gives)
    (record { own = are_own changes own c.args.page is.listed; put = none_put mapping_at itself changes c.args.page own c.args.into.now is.each })

pub set-requires : goal.set-requires
set-requires c =
    let is = rest_more deref_pair c.loop-id.id-iterator c.next.new.self c.next.result (c.in-Some.id, c.in-Some.mapping) c.in-Some.is c.next.ensures.steps in
    let own = subst (λ (xs : List (SlotId × Mapping)). AreOwn c.args.changes.now c.args.page xs) is c.loop-id.invariant.own in
    own.0.1

pub loop-id-preserved : goal.loop-id-preserved
loop-id-preserved c =
    let changes = c.args.changes.now in
    let id = c.in-Some.id.now in
    let mapping = c.in-Some.mapping.now in
    let is = rest_more deref_pair c.loop-id.id-iterator c.next.new.self c.next.result (c.in-Some.id, c.in-Some.mapping) c.in-Some.is c.next.ensures.steps in
    let own = subst (λ (xs : List (SlotId × Mapping)). AreOwn changes c.args.page xs) is c.loop-id.invariant.own in
    let put = subst (λ (xs : List (SlotId × Mapping)). ArePutBut mapping_at itself changes c.args.page xs c.args.into.now c.loop-id.into) is c.loop-id.invariant.put in
    let set = c.set.ensures in
    let size = set.size in
    let after = set.after in
    let same = length-set c.loop-id.into id.slot mapping in
    let inside = own.0.1 in
    let long : length (slice_set c.loop-id.into id.slot mapping) ≡ 812 = subst (λ (ms : List Mapping). length ms ≡ 812) after size in
    record {
      own = own.1;
      put = subst (λ (ms : List Mapping). ArePutBut mapping_at itself changes c.args.page c.next.new.self c.args.into.now ms) (sym after)
          (one_put mapping_at itself changes c.args.page (id, mapping) c.next.new.self c.args.into.now c.loop-id.into (slice_set c.loop-id.into id.slot mapping) own.0 put
          (get_or-set_same c.loop-id.into id.slot mapping Unmapped (omega (arith, long, same, inside)))
          (λ slot below differs. get_or-set_other c.loop-id.into id.slot slot mapping Unmapped differs));
    }

pub returns : goal.returns
returns c =
    let none = rest_all deref_pair c.loop-id.id-iterator c.next.new.self c.next.result c.in-None.is c.next.ensures.steps in
    let put = subst (λ (xs : List (SlotId × Mapping)). ArePutBut mapping_at itself c.args.changes.now c.args.page xs c.args.into.now c.loop-id.into) none c.loop-id.invariant.put in
    record { put = λ slot mapping inside is. put.put slot mapping inside refl is; others = put.others }
