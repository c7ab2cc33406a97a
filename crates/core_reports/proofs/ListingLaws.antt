-- The places of several zones, and the blocks that they count, zone after zone.
use Rattle.std.proofs.Common.{ℕ, suc, ◌≡◌, ◌<◌, ◌≤◌, ◌+◌, ◌-◌, ◌^◌, ◌++◌, min, List, [], ◌∷◌, length, get_or, take, drop, reverse, sym, ◌∙◌, ap, append_assoc, arith, length-append}
use Rattle.std.proofs.Math.Seq.{take-suc}
use Rattle.std.proofs.lemmas.List.{append-nil, length-reverse, take-append-drop}
use Rattle.vdo_model.specs.declared.report.Placed.{Placed}
use Rattle.core_model.specs.SessionLimits.{most_requests}
use Rattle.core_model.specs.declared.zones.Zone.{Zone}
use Rattle.core_reports.specs.Listed.{places_at, places_of_all, used_by, used_by_all}

places_of_both : (xs ys : List Zone) → places_of_all (xs ++ ys) ≡ places_of_all ys ++ places_of_all xs
places_of_both [] ys = sym (append-nil (places_of_all ys))
places_of_both (z ∷ xs) ys =
    ap (λ (ps : List Placed). ps ++ places_at z.keeps) (places_of_both xs ys) ∙ append_assoc (places_of_all ys) (places_of_all xs) (places_at z.keeps)

-- those of one zone more
one_zone_more : (zones : List Zone) (n : ℕ) (z : Zone) → n < length zones → z ≡ get_or zones n z
    → places_of_all (take (n + 1) zones) ≡ places_at z.keeps ++ places_of_all (take n zones)
one_zone_more zones n z within is =
    let next : n + 1 ≡ suc n = omega arith in
    ap (λ (k : ℕ). places_of_all (take k zones)) next
    ∙ ap places_of_all (take-suc zones n z within)
    ∙ places_of_both (take n zones) (get_or zones n z ∷ [])
    ∙ ap (λ (y : Zone). places_at y.keeps ++ places_of_all (take n zones)) (sym is)

-- the first zones have no more than all
first_few : (zones : List Zone) (n : ℕ) → length (places_of_all (take n zones)) ≤ length (places_of_all zones)
first_few zones n =
    let whole : length (places_of_all (take n zones ++ drop n zones)) ≡ length (places_of_all zones)
    = ap (λ (zs : List Zone). length (places_of_all zs)) (take-append-drop n zones) in
    let parts : length (places_of_all (take n zones ++ drop n zones)) ≡ length (places_of_all (drop n zones) ++ places_of_all (take n zones))
    = ap (λ (ps : List Placed). length ps) (places_of_both (take n zones) (drop n zones)) in
    omega (arith, whole, parts, length-append (places_of_all (drop n zones)) (places_of_all (take n zones)))

-- one zone more, whose places are added while there is room
pub one_zone_listed : (zones : List Zone) (n : ℕ) (z : Zone) (drawn before now : List Placed) → n < length zones → z ≡ get_or zones n z → places_at z.keeps ≡ reverse drawn
    → (length before + length drawn ≤ most_requests → now ≡ reverse drawn ++ before)
    → length (places_of_all zones) ≤ most_requests → before ≡ places_of_all (take n zones) → now ≡ places_of_all (take (n + 1) zones)
one_zone_listed zones n z drawn before now within is drawn_is adds few same =
    let more : reverse drawn ++ before ≡ places_of_all (take (n + 1) zones)
    = ap (λ (ps : List Placed). ps ++ before) (sym drawn_is) ∙ ap (λ (ps : List Placed). places_at z.keeps ++ ps) same ∙ sym (one_zone_more zones n z within is) in
    let all : length (reverse drawn ++ before) ≡ length (places_of_all (take (n + 1) zones)) = ap (λ (ps : List Placed). length ps) more in
    adds (omega (arith, all, few, first_few zones (n + 1), length-append (reverse drawn) before, length-reverse drawn)) ∙ more

-- how many blocks several zones count
used_by_both : (xs ys : List Zone) → used_by_all (xs ++ ys) ≡ used_by_all xs + used_by_all ys
used_by_both [] ys = omega arith
used_by_both (z ∷ xs) ys = let rest = used_by_both xs ys in omega (arith, rest)

-- one zone more, of which they are added while the sum fits
pub one_zone_used : (zones : List Zone) (n : ℕ) (z : Zone) (more before now : ℕ) → n < length zones → z ≡ get_or zones n z → more ≡ used_by z.keeps
    → now ≡ min (before + more) (2 ^ 32 - 1) → used_by_all zones < 2 ^ 32 → before ≡ used_by_all (take n zones) → now ≡ used_by_all (take (n + 1) zones)
one_zone_used zones n z more before now within is more_is now_is few same =
    let next : n + 1 ≡ suc n = omega arith in
    let with_it : used_by_all (take (n + 1) zones) ≡ used_by_all (take n zones) + used_by z.keeps
    = ap (λ (k : ℕ). used_by_all (take k zones)) next
    ∙ ap used_by_all (take-suc zones n z within)
    ∙ used_by_both (take n zones) (get_or zones n z ∷ [])
    ∙ ap (λ (y : Zone). used_by_all (take n zones) + used_by_all (y ∷ [])) (sym is)
    ∙ alone (used_by_all (take n zones)) (used_by z.keeps) in
    let whole = ap used_by_all (take-append-drop (n + 1) zones) in
    let parts = used_by_both (take (n + 1) zones) (drop (n + 1) zones) in
    omega (arith, with_it, whole, parts, more_is, now_is, few, same)
  where
    alone : (first one : ℕ) → first + (one + 0) ≡ first + one
    alone first one = omega arith
