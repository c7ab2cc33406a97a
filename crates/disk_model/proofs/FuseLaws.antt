-- Which calls fail by a fuse.
use Rattle.std.proofs.Common.{ℕ, suc, ◌≡◌, ◌-◌, ◌==◌, ◌<◌, ◌≤◌, nat_le, true, List, [], ◌∷◌, ◌++◌, length, refl, sym, ◌∙◌, ap, inl, inr, arith}
use Rattle.std.proofs.lemmas.Bool.{cases_lt, le-leb, lt-leb}
use Rattle.std.proofs.lemmas.Bool.Decides.{eqb_tells}
use Rattle.disk_model.specs.declared.call.Call.{Call}
use Rattle.disk_model.specs.declared.fuse.Fuse.{Fuse}
use Rattle.disk_model.specs.declared.fuse.Fuse.TheVariants.{Unset, Passes, Spent}
use Rattle.disk_model.specs.Fuses.{is_cut, burnt, burnt_all}

-- one call fewer
burnt-some : (n : ℕ) (log : List Call) → 0 < n → burnt (Passes n) log ≡ Passes (n - 1)
burnt-some n log some = elim (eqb_tells n 0) [
  | inl none ↦ absurd (let same = none.1 in omega (arith, same, some))
  | inr other ↦ rw (other.0) refl
]

-- while it lasts
pub burnt-passing : (passes : ℕ) (logs : List (List Call)) → length logs ≤ passes → burnt_all (Passes passes) logs ≡ Passes (passes - length logs)
burnt-passing passes [] few = let all : passes ≡ passes - 0 = omega arith in ap Passes all
burnt-passing passes (log ∷ older) few =
    let fewer : passes - length older - 1 ≡ passes - suc (length older) = omega arith in
    ap (λ (f : Fuse). burnt f log) (burnt-passing passes older (omega (arith, few)))
    ∙ burnt-some (passes - length older) log (omega (arith, few))
    ∙ ap Passes fewer

-- the first call that fails by it, and all later ones
pub burnt-spent : (later : List (List Call)) (log : List Call) (older : List (List Call)) → burnt_all (Passes (length older)) (later ++ log ∷ older) ≡ Spent (length log)
burnt-spent [] log older =
    let none : length older - length older ≡ 0 = omega arith in
    ap (λ (f : Fuse). burnt f log) (burnt-passing (length older) older (omega arith) ∙ ap Passes none)
burnt-spent (next ∷ later) log older = ap (λ (f : Fuse). burnt f next) (burnt-spent later log older)

still_cut : (fuse : Fuse) (log : List Call) → is_cut fuse ≡ true → is_cut (burnt fuse log) ≡ true
still_cut Unset log cut = absurd (cc cut)
still_cut (Passes n) log cut = rw cut refl
still_cut (Spent calls) log cut = refl

cut_after : (passes : ℕ) (logs : List (List Call)) → passes ≤ length logs → is_cut (burnt_all (Passes passes) logs) ≡ true
cut_after passes [] enough = let none : passes ≡ 0 = omega (arith, enough) in ap (λ (n : ℕ). n == 0) none
cut_after passes (log ∷ older) enough = elim (cases_lt (length older) passes) [
  | inl fewer ↦
      let last : passes - length (log ∷ older) ≡ 0 = omega (arith, enough, fewer) in
      ap is_cut (burnt-passing passes (log ∷ older) (omega (arith, enough, fewer))) ∙ ap (λ (n : ℕ). n == 0) last
  | inr before ↦ still_cut (burnt_all (Passes passes) older) log (cut_after passes older before)
]

-- exactly the calls behind the first ones fail
pub cut_exactly : (passes : ℕ) (logs : List (List Call)) → is_cut (burnt_all (Passes passes) logs) ≡ nat_le passes (length logs)
cut_exactly passes logs = elim (cases_lt (length logs) passes) [
  | inl fewer ↦
      let not_none = eqb_tells (passes - length logs) 0 in
      ap is_cut (burnt-passing passes logs (omega (arith, fewer)))
      ∙ elim not_none [
        | inl none ↦ absurd (let same = none.1 in omega (arith, same, fewer))
        | inr some ↦ some.0 ∙ sym (lt-leb passes (length logs) fewer)
      ]
  | inr enough ↦ cut_after passes logs enough ∙ sym (le-leb passes (length logs) enough)
]
