use Rattle.std.proofs.Common.{ℕ, ◌≡◌, ◌+◌, ◌*◌, ◌<◌, ◌++◌, ◌∙◌, List, length, get_or, take, drop, slice_index, sym, subst, ap, arith}
use Rattle.std.proofs.lemmas.Bool.{OnTrue_at}
use Rattle.count_updates.proofs.NumberLaws.{one_counted, one_leaves, next_block, row_ends, slab_counted}
use Rattle.count_updates.proofs.SettledLaws.{in_row, row_is, slab_settled}
use Rattle.count_updates.specs.Counted.{AreCountedUpTo}
use Rattle.count_updates.proofs.PartLaws.{in_order_part, part_counted, part_passed}
use Rattle.count_updates.proofs.block_counts.count_slab.Goals as goal
use Rattle.count_updates.specs.FoundLists.{lists_of}

pub count_of-requires-clause-order : goal.count_of-requires-clause-order
count_of-requires-clause-order c = in_order_part _ _ c.as_slice-all.result.now (rw c.as_slice-all.ensures.value c.requires.order)

pub returns-in-Err-clause-refused : goal.returns-in-Err-clause-refused
returns-in-Err-clause-refused c =
    let ends = c.end_of_block-end.ensures in
    let were = c.loop-offset.invariant in
    one_leaves _ _ c.args.slab c.loop-offset.offset _ _ _ (c.requires.inside, omega arith) c.data_block-at.ensures.block were.counted
    (part_counted _ _ c.as_slice-all.ensures.value _ _ _ _ c.data_block-at.ensures.block c.requires.order were.passed ends.within ends.ended _ _ _ _ c.in-Err.ensures.left)

pub loop-offset-preserved : goal.loop-offset-preserved
loop-offset-preserved c =
    let ends = c.end_of_block-end.ensures in
    let were = c.loop-offset.invariant in
    record {
      passed = part_passed _ _ c.as_slice-all.ensures.value _ _ _ _ c.data_block-at.ensures.block c.requires.order were.passed ends.within ends.ended _
          (next_block c.args.layout.now.geometry c.args.slab c.loop-offset.offset) ends.passed;
      counted = rw c.in-Ok-push.ensures.items (one_counted _ _ c.args.slab c.loop-offset.offset _ _ were.counted
          (part_counted _ _ c.as_slice-all.ensures.value _ _ _ _ c.data_block-at.ensures.block c.requires.order were.passed ends.within ends.ended _ _ _ _ c.in-Ok.ensures.counted));
    }

pub returns-then-are_within-clause-counted : goal.returns-then-are_within-clause-counted
returns-then-are_within-clause-counted c =
    let g = c.args.layout.now.geometry in
    let counters = c.args.found.now.counters.items in
    let commits = c.args.found.now.commits.items in
    let updates = c.args.found.now.updates.items in
    let all = c.as_slice-all.result.now in
    let items = c.deref.result.now in
    let start = c.block_number-first.result in
    let last = c.data_block-last.result.0 in
    let row_end = row_ends c.args.slab g.slabs g.slab_blocks c.requires.inside in
    let size = c.requires.counters in
    let number = c.block_number-first.ensures.number in
    let here : start ≡ c.args.slab * g.slab_blocks = omega (arith, number) in
    let value = c.deref.ensures.value in
    let long = ap (λ (xs : List ℕ). length xs) value in
    let ends = c.end_of_block.ensures in
    let at = c.if-end_of_block-passed.true in
    let within = ends.within.1 in
    let last_is = c.data_block-last.ensures.block in
    let fits = OnTrue_at c.if-are_within.true c.are_within.ensures in
    let most = c.limit.ensures in
    let settled =
    slab_settled g counters commits all updates c.as_slice-all.ensures.value c.args.slab c.args.passed last c.requires.inside size c.requires.order c.requires.before (omega (arith, within, at))
    (λ d low. subst (λ (n : ℕ). last < (get_or all n d).at.0) at (ends.ended d (omega (arith, low, at))))
    (λ k below. omega (arith, last_is, below))
    (λ k below.
    let row = in_row items start g.slab_blocks k below (omega (arith, here, row_end, size, long)) in
    let fit = fits k row.1 in
    let equal = row.0 in
    let place : start + k ≡ c.args.slab * g.slab_blocks + k = omega (arith, here) in
    let there = ap (slice_index items) place in
    let same = ap (λ (xs : List ℕ). slice_index xs (c.args.slab * g.slab_blocks + k)) value in
    omega (arith, fit, equal, there, same, most))
    c.args.counts.now.items c.requires.counted in
    slab_counted g (lists_of c.args.found.now) c.args.slab c.push_all.new.counts.items
    (subst (λ (cs : List ℕ). AreCountedUpTo g (lists_of c.args.found.now) c.args.slab g.slab_blocks cs)
    (sym (c.in_ok-push_all.ensures.added
    ∙ ap (λ (xs : List ℕ). c.args.counts.now.items ++ xs)
    (row_is items start g.slab_blocks ∙ ap (λ (n : ℕ). take g.slab_blocks (drop n items)) here
    ∙ ap (λ (xs : List ℕ). take g.slab_blocks (drop (c.args.slab * g.slab_blocks) xs)) value)))
    settled)

pub returns-clause-counted : goal.returns-clause-counted
returns-clause-counted c =
    let g = c.args.layout.now.geometry in
    let inside = c.loop-offset.auto.offset-end in
    let ended = c.loop-offset-test.false in
    let all : c.loop-offset.offset ≡ g.slab_blocks = omega (arith, inside, ended) in
    slab_counted g (lists_of c.args.found.now) c.args.slab c.loop-offset.counts.items
    (subst (λ (n : ℕ). AreCountedUpTo g (lists_of c.args.found.now) c.args.slab n c.loop-offset.counts.items) all
    c.loop-offset.invariant.counted)
