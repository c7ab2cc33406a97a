use Rattle.std.proofs.Common.{◌≡◌, ◌<◌, ◌∙◌, IfOk, length, drop, ap, sym, subst, arith}
use Rattle.blk_base.specs.Pages.{slot_of_address}
use Rattle.blk_base.specs.declared.place.PageId.{PageId}
use Rattle.core_model.specs.PageLinks.{leaf_head}
use Rattle.page_codec.specs.Grammar.{IsSlot}
use Rattle.device_zone.proofs.ZeroSlotLaws.{first_read}
use Rattle.device_zone.proofs.leaves.mapping_in.Goals as goal

pub returns-then-has_zero_slots-clause-ok : goal.returns-then-has_zero_slots-clause-ok
returns-then-has_zero_slots-clause-ok c =
    let geometry = c.args.sizes.now.geometry in
    let block = c.args.bytes.now in
    let slot : slot_of_address c.args.at.0 < 812 = omega arith in
    let size : length block ≡ 4096 = ap length (sym c.bytes.view_is) ∙ c.bytes.told in
    let zeros = ap (drop 36) (sym c.bytes.view_is) ∙ c.has_zero_slots.ensures.0 c.if-has_zero_slots.true in
    first_read (leaf_head geometry c.args.at.0 c.args.leaf) block (slot_of_address c.args.at.0) c.slot.result size zeros slot
    (subst (λ (page : PageId). IfOk c.slot.result (λ m. IsSlot (record { geometry = geometry; page = page; at = c.args.leaf }) block 0 m)) c.leaf.ensures c.slot.ensures.ok)
