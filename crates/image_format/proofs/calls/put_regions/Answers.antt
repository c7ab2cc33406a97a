use Rattle.std.proofs.Common.{ℕ, ◌≡◌, ◌+◌, ◌++◌, arith, ap}
use Rattle.std.proofs.Math.Nat.{mod-eq_of_lt}
use Rattle.blk_base.specs.Regions.{IndexBlock, block_of}
use Rattle.image_format.specs.Calls.{region_calls, roots_below, slabs_below, zeros_from}
use Rattle.image_format.proofs.RunLaws.{failed_as, failed_before, failed_on, is_failed, made_as, made_on, then_made}
use Rattle.image_format.proofs.calls.put_regions.Goals as goal

pub returns-in_err-put_zeros : goal.returns-in_err-put_zeros
unfolding region_calls
returns-in_err-put_zeros g c =
    let sizes = c.args.layout.now.geometry in
    let first : c.journal_slot.result.0 ≡ 1 + 0 = omega (arith, c.journal_slot.ensures.block, mod-eq_of_lt {n = 0} {m = sizes.journal} (omega arith)) in
    let journal = zeros_from (1 + 0) sizes.journal in
    let index = zeros_from (block_of sizes (IndexBlock 0)) sizes.index in
    is_failed _ _ _ _ c.from_residual.result c.from_residual.ensures.0
    (failed_before _ _ _ (index ++ (roots_below sizes 60 ++ journal)) (slabs_below sizes sizes.slabs)
    (failed_before _ _ _ (roots_below sizes 60 ++ journal) index
    (failed_before _ _ _ journal (roots_below sizes 60)
    (failed_as _ _ _ _ _ (ap (λ (n : ℕ). zeros_from n sizes.journal) first) c.in_err-put_zeros.ensures))))

pub returns-in_err-put_roots : goal.returns-in_err-put_roots
unfolding region_calls
returns-in_err-put_roots g c =
    let sizes = c.args.layout.now.geometry in
    let first : c.journal_slot.result.0 ≡ 1 + 0 = omega (arith, c.journal_slot.ensures.block, mod-eq_of_lt {n = 0} {m = sizes.journal} (omega arith)) in
    let journal = zeros_from (1 + 0) sizes.journal in
    let index = zeros_from (block_of sizes (IndexBlock 0)) sizes.index in
    is_failed _ _ _ _ c.from_residual-in_err-put_roots.result c.from_residual-in_err-put_roots.ensures.0
    (failed_before _ _ _ (index ++ (roots_below sizes 60 ++ journal)) (slabs_below sizes sizes.slabs)
    (failed_before _ _ _ (roots_below sizes 60 ++ journal) index
    (failed_on _ _ _ _ journal (roots_below sizes 60) (made_as _ _ _ _ _ (ap (λ (n : ℕ). zeros_from n sizes.journal) first) c.in_ok-put_zeros.ensures) c.in_err-put_roots.ensures)))

pub returns-in_err-put_zeros-2 : goal.returns-in_err-put_zeros-2
unfolding region_calls
returns-in_err-put_zeros-2 g c =
    let sizes = c.args.layout.now.geometry in
    let first : c.journal_slot.result.0 ≡ 1 + 0 = omega (arith, c.journal_slot.ensures.block, mod-eq_of_lt {n = 0} {m = sizes.journal} (omega arith)) in
    let journal = zeros_from (1 + 0) sizes.journal in
    let index = zeros_from (block_of sizes (IndexBlock 0)) sizes.index in
    is_failed _ _ _ _ c.from_residual-in_err-put_zeros-2.result c.from_residual-in_err-put_zeros-2.ensures.0
    (failed_before _ _ _ (index ++ (roots_below sizes 60 ++ journal)) (slabs_below sizes sizes.slabs)
    (failed_on _ _ _ _ (roots_below sizes 60 ++ journal) index
    (made_on _ _ _ _ journal (roots_below sizes 60) (made_as _ _ _ _ _ (ap (λ (n : ℕ). zeros_from n sizes.journal) first) c.in_ok-put_zeros.ensures) c.in_ok-put_roots.ensures)
    (failed_as _ _ _ _ _ (ap (λ (n : ℕ). zeros_from n sizes.index) c.index_block.ensures.block) c.in_err-put_zeros-2.ensures)))

pub returns : goal.returns
unfolding region_calls
returns g c =
    let sizes = c.args.layout.now.geometry in
    let first : c.journal_slot.result.0 ≡ 1 + 0 = omega (arith, c.journal_slot.ensures.block, mod-eq_of_lt {n = 0} {m = sizes.journal} (omega arith)) in
    let journal = zeros_from (1 + 0) sizes.journal in
    let index = zeros_from (block_of sizes (IndexBlock 0)) sizes.index in
    then_made _ _ _ _ (index ++ (roots_below sizes 60 ++ journal)) (slabs_below sizes sizes.slabs) c.put_slabs.result
    (made_on _ _ _ _ (roots_below sizes 60 ++ journal) index
    (made_on _ _ _ _ journal (roots_below sizes 60) (made_as _ _ _ _ _ (ap (λ (n : ℕ). zeros_from n sizes.journal) first) c.in_ok-put_zeros.ensures) c.in_ok-put_roots.ensures)
    (made_as _ _ _ _ _ (ap (λ (n : ℕ). zeros_from n sizes.index) c.index_block.ensures.block) c.in_ok-put_zeros-2.ensures))
    c.put_slabs.ensures
