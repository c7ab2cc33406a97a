use Rattle.std.proofs.Common.{ℕ, suc, ◌≡◌, ◌+◌, ◌<◌, length, reverse, slice_set, subst, arith}
use Rattle.std.proofs.lemmas.List.{get_or_read}
use Rattle.blk_base.specs.Sectors.{zero_block}
use Rattle.disk_model.specs.PickParts.{IsPickedUpTo}
use Rattle.disk_model.proofs.PickLaws.{picked_more}
use Rattle.disk_model.proofs.picks.pick_each.Goals as goal

pub loop-b-preserved : goal.loop-b-preserved
loop-b-preserved c =
    let log = reverse c.args.calls.now in
    let b = c.loop-b.b in
    let image = c.loop-b.image.items in
    let inside : b < length c.args.image.now.items = omega (arith, c.loop-b-test.true, c.len-b-end.ensures, c.args.image.now.ok) in
    let size = c.loop-b.invariant.size in
    let is = get_or_read image b c.index_mut.result.now (omega (arith, inside, size)) c.index_mut.ensures.value zero_block in
    let next : suc b ≡ b + 1 = omega arith in
    subst (λ (n : ℕ). IsPickedUpTo c.args.image.now.items log c.args.number n (slice_set image b c.pick_written.new.block) c.pick_written.new.state) next
    (picked_more c.args.image.now.items log c.args.number b image c.index_mut.result.now c.pick_written.new.block c.loop-b.state c.pick_written.new.state
    c.loop-b.invariant inside is c.pick_written.ensures.size c.pick_written.ensures.sectors c.pick_written.ensures.state)
