use Rattle.std.proofs.Common.{◌≡◌, ◌∙◌, ℕ, List, ap, ap₂, length, subst}
use Rattle.std.proofs.lemmas.Bool.{OnTrue_at, OnTrue_from}
use Rattle.std.specs.Prelude.{min}
use Rattle.lane_kernels.specs.Kernels.{HasNoZero}
use Rattle.lane_kernels.proofs.LoadLaws.{least, least_long, none_under_four}
use Rattle.lane_kernels.proofs.loads.has_no_free.Goals as goal
use lib.Lanes.{zip2}

-- a vector of the lesser lanes of two
lesser_of : (xs ys vs ws ls : List ℕ) → ls ≡ zip2 min xs ys → xs ≡ vs → ys ≡ ws → ls ≡ zip2 min vs ws
lesser_of xs ys vs ws ls is left right = is ∙ ap₂ (λ (as_ bs_ : List ℕ). zip2 min as_ bs_) left right

pub has_no_zero-requires : goal.has_no_zero-requires
has_no_zero-requires c =
    ap (λ (xs : List ℕ). length xs) (
    lesser_of _ _ _ _ _ c.lesser.ensures (lesser_of _ _ _ _ _ c.lesser-front.ensures c.holds.ensures c.holds-2.ensures)
    (lesser_of _ _ _ _ _ c.lesser-back.ensures c.holds-3.ensures c.holds-4.ensures)
    )
    ∙ least_long c.args.counters.now c.args.claims.now c.args.at c.requires.0 c.requires.1

pub returns : goal.returns
returns c =
    let lanes : c.lesser.result ≡ least c.args.counters.now c.args.claims.now c.args.at c.requires.0 c.requires.1 =
    lesser_of _ _ _ _ _ c.lesser.ensures (lesser_of _ _ _ _ _ c.lesser-front.ensures c.holds.ensures c.holds-2.ensures)
    (lesser_of _ _ _ _ _ c.lesser-back.ensures c.holds-3.ensures c.holds-4.ensures) in
    OnTrue_from _ _ (λ yes.
    none_under_four c.args.counters.now c.args.claims.now c.args.at c.requires.0 c.requires.1 (subst HasNoZero lanes (OnTrue_at yes c.has_no_zero.ensures)))
