use Rattle.std.proofs.Common.{ℕ, ◌≡◌, ◌+◌, ◌*◌, ◌++◌, ◌∙◌, suc, List, slice_index, sym, subst, ap, arith}
use Rattle.std.proofs.lemmas.Bool.{OnTrue_at}
use Rattle.audit.proofs.ReportLaws.{none_between}
use Rattle.audit.specs.Tallies.{difference_in, differences_below, number_in}
use Rattle.audit.specs.declared.forms.Difference.{Difference}
use Rattle.audit.proofs.comparison.push_slab.Goals as goal

pub returns-then-are_same : goal.returns-then-are_same
returns-then-are_same c =
    let g = c.args.layout.now.geometry in
    let stored = c.args.stored.now in
    let mapped = number_in c.args.mapped.now in
    let start = c.block_number.result in
    let number = c.block_number.ensures.number in
    let same = OnTrue_at c.if-are_same.true c.are_same.ensures in
    c.requires.before
    ∙ sym (none_between g stored mapped (c.args.slab * g.slab_blocks) g.slab_blocks (λ k below.
    let is = same k below in
    let equal = is.0 in
    let few = is.1 in
    let low = ap (λ (xs : List ℕ). slice_index xs (start + k)) c.deref.ensures.value in
    let more = c.requires.split (start + k) (omega (arith, few, low)) in
    let here : slice_index stored (start + k) ≡ mapped (start + k) = omega (arith, equal, low, more) in
    let place : start + k ≡ c.args.slab * g.slab_blocks + k = omega (arith, number) in
    subst (λ (n : ℕ). slice_index stored n ≡ mapped n) place here))

pub loop-offset-preserved : goal.loop-offset-preserved
loop-offset-preserved c =
    let g = c.args.layout.now.geometry in
    let stored = c.args.stored.now in
    let mapped = number_in c.args.mapped.now in
    let n = c.args.slab * g.slab_blocks + c.loop-offset.offset in
    let next : suc n ≡ c.args.slab * g.slab_blocks + (c.loop-offset.offset + 1) = omega arith in
    c.in_ok-push_difference.ensures
    ∙ ap (λ (ds : List Difference). ds ++ difference_in g stored mapped c.block_number-in-loop-offset.result) c.loop-offset.invariant
    ∙ ap (λ (m : ℕ). differences_below g stored mapped n ++ difference_in g stored mapped m) c.block_number-in-loop-offset.ensures.number
    ∙ ap (differences_below g stored mapped) next
