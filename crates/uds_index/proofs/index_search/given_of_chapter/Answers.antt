use Rattle.std.proofs.Common.{◌≡◌, ◌∙◌, ℕ, Bool, true, false, cond, nat_eq, get_or, ap, arith, refl}
use mir.Val.{bool_byte}
use Rattle.uds_index.specs.Looks.{place_of_block}
use Rattle.uds_index.proofs.RoomLaws.{count_taken, count_more, one_at_most, same_read}
use Rattle.uds_index.proofs.index_search.given_of_chapter.Goals as goal

one_byte : (b : Bool) → ◌≡◌ {A = ℕ} (bool_byte b) (cond b 1 0)
one_byte true = refl
one_byte false = refl

pub overflow_add-count : goal.overflow_add-count
overflow_add-count c =
    let few = count_taken (place_of_block c.args.first) (place_of_block c.args.first c.args.at) c.loop-block.block-index c.args.given.now in
    let one = one_at_most c.is_same_place.result in
    let byte = c.from-count.ensures ∙ one_byte c.is_same_place.result in
    omega (arith, few, one, byte, c.loop-block.invariant, c.loop-block-test.true, c.loop-block.auto.block-index-end)

pub loop-block-preserved : goal.loop-block-preserved
loop-block-preserved c =
    let k = c.loop-block.block-index in
    let given = c.args.given.now in
    let block = get_or given k 0 in
    let more = count_more (place_of_block c.args.first) (place_of_block c.args.first c.args.at) given k block c.loop-block-test.true (same_read given k 0 block c.loop-block-test.true) in
    let byte : ◌≡◌ {A = ℕ} c.from-count.result (cond (nat_eq (place_of_block c.args.first block) (place_of_block c.args.first c.args.at)) 1 0) =
    c.from-count.ensures ∙ one_byte c.is_same_place.result ∙ ap {B = ℕ} (λ (b : Bool). cond b 1 0) c.is_same_place.ensures in
    omega (arith, more, c.loop-block.invariant, byte)
