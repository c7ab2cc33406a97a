use Rattle.std.proofs.Common.{◌≡◌, ◌∙◌, sym, subst, refl, List, length, take}
use Rattle.std.proofs.lemmas.Map.Iter.{rest_all, rest_more}
use Rattle.std.specs.Map.Iter.{deref_pair}
use Rattle.blk_base.specs.declared.place.Mapping.{Mapping}
use Rattle.byte_fields.specs.Mappings.{mapping_bytes}
use Rattle.page_codec.specs.Grammar.{slot_bytes}
use Rattle.replay_map.proofs.PutLaws.{AreOwn, ArePutBut, are_own, none_put, one_put}
use Rattle.replay_map.specs.declared.changes.SlotId.{SlotId}
use Rattle.recovery_blocks.proofs.PatchLaws.{all_patched}
use Rattle.recovery_blocks.proofs.page_patches.put_slots.Goals as goal

pub loop-id-init : goal.loop-id-init
loop-id-init c =
    let changes = c.args.changes.now in
    let own = c.of_page-id-items.result in
    let block = c.args.block.now in
    let is = c.of_page-id-items.ensures in
    subst (λ (xs : List (SlotId × Mapping)). record {
      size : length block ≡ length block;
      head : take 36 block ≡ take 36 block;
      own : AreOwn changes c.args.page xs;
      put : ArePutBut slot_bytes mapping_bytes changes c.args.page xs block block;
    }) (sym c.into_iter-id-iterator.ensures.into_iter_gives)
    (record {
      size = refl;
      head = refl;
      own = are_own changes own c.args.page is.listed;
      put = none_put slot_bytes mapping_bytes changes c.args.page own block is.each;
    })

pub put_slot-requires : goal.put_slot-requires
put_slot-requires c =
    let is = rest_more deref_pair c.loop-id.id-iterator c.next.new.self c.next.result (c.in-Some.id, c.in-Some.mapping) c.in-Some.is c.next.ensures.steps in
    let own = subst (λ (xs : List (SlotId × Mapping)). AreOwn c.args.changes.now c.args.page xs) is c.loop-id.invariant.own in
    record { size = c.loop-id.invariant.size ∙ c.requires; inside = own.0.1 }

pub loop-id-preserved : goal.loop-id-preserved
loop-id-preserved c =
    let changes = c.args.changes.now in
    let were = c.loop-id.invariant in
    let is = rest_more deref_pair c.loop-id.id-iterator c.next.new.self c.next.result (c.in-Some.id, c.in-Some.mapping) c.in-Some.is c.next.ensures.steps in
    let own = subst (λ (xs : List (SlotId × Mapping)). AreOwn changes c.args.page xs) is were.own in
    let put = subst (λ (xs : List (SlotId × Mapping)). ArePutBut slot_bytes mapping_bytes changes c.args.page xs c.args.block.now c.loop-id.block) is were.put in
    let one = c.put_slot.ensures in
    record {
      size = one.size ∙ were.size;
      head = one.head ∙ were.head;
      own = own.1;
      put = one_put slot_bytes mapping_bytes changes c.args.page (c.in-Some.id.now, c.in-Some.mapping.now) c.next.new.self c.args.block.now c.loop-id.block c.put_slot.new.block own.0 put
          one.put one.others;
    }

pub returns : goal.returns
returns c =
    let were = c.loop-id.invariant in
    let none = rest_all deref_pair c.loop-id.id-iterator c.next.new.self c.next.result c.in-None.is c.next.ensures.steps in
    all_patched c.args.changes.now c.args.page c.args.block.now c.loop-id.block were.size were.head
    (subst (λ (xs : List (SlotId × Mapping)). ArePutBut slot_bytes mapping_bytes c.args.changes.now c.args.page xs c.args.block.now c.loop-id.block) none were.put)
