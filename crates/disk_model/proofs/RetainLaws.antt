-- How a loop from the end of a list leaves the elements that pass a test, each changed.
use Rattle.std.specs.Prelude.{ℕ, zero, suc, ◌≡◌, ◌<◌, ◌≤◌, Bool, true, List, [], ◌∷◌, ◌++◌, length, take, drop, refl}
use Rattle.std.specs.List.{retain_mut}
use Rattle.std.proofs.Common.{ap, subst, arith, get_or, set}

module _ {X : Type 0} (test : X → Bool) (change : X → X) where
  -- the loop has done what stands behind the first r + 1 elements
  abbrev done : List X → ℕ → List X
  done old r = take (suc r) old ++ retain_mut test change (drop (suc r) old)

  -- The element at r stays, changed.
  retain_mut_stays : (old : List X) (r : ℕ) (x : X) → r < length old → x ≡ get_or (done old r) r x → test x ≡ true
      → set (done old r) r (change x) ≡ take r old ++ retain_mut test change (drop r old)
  retain_mut_stays [] r x below is stays = absurd (omega arith)
  retain_mut_stays (y ∷ ys) zero x below is stays =
      let passes : test y ≡ true = subst (λ z. test z ≡ true) is stays in
      rw (is, passes) refl
  retain_mut_stays (y ∷ ys) (suc r) x below is stays = ap (λ zs. y ∷ zs) (retain_mut_stays ys r x (omega arith) is stays)

  -- One iteration of the loop, on the list as it stands after n elements are left to do.
  pub retain_mut-stays : (old now : List X) (n r : ℕ) (x changed : X) → n ≡ suc r → n ≤ length old → now ≡ take n old ++ retain_mut test change (drop n old)
      → x ≡ get_or now r x → test x ≡ true → changed ≡ change x → set now r changed ≡ take r old ++ retain_mut test change (drop r old)
  retain_mut-stays old now n r x changed place below so_far is stays changed_is =
      let here : now ≡ done old r = subst (λ k. now ≡ take k old ++ retain_mut test change (drop k old)) place so_far in
      rw (here, changed_is) (retain_mut_stays old r x (omega arith) (subst (λ zs. x ≡ get_or zs r x) here is) stays)
