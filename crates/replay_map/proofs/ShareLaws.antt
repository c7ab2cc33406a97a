-- Shared blocks are those that the image shares, and the least one is its fault.
use Rattle.std.proofs.Common.{ℕ, suc, ◌≡◌, ◌⊎◌, ◌+◌, ◌<◌, ◌≤◌, ◌==◌, ◌||◌, ◌++◌, Bool, true, false, List, [], ◌∷◌, Option, Some, None, Contains, length, get_or, replicate, take, slice_index_or, slice_set, zero, refl, sym, ◌∙◌, ap, subst, inl, inr, arith}
use Rattle.std.proofs.Math.Seq.{take-suc}
use Rattle.std.proofs.lemmas.Bool.Decides.{eqb_tells}
use Rattle.std.proofs.lemmas.List.{get_or-set_other, get_or-set_same}
use Rattle.std.proofs.lemmas.List.Elements.{Contains-append_cases, Contains-append_left, Contains-append_right}
use Rattle.std.proofs.lemmas.List.Folds.{list_any-append}
use Rattle.blk_base.specs.declared.place.Pbn.{Pbn}
use Rattle.replay_map.specs.Shares.{IsLeastOf, has_page, is_marked}
use Rattle.replay_map.specs.declared.links.Link.{Link}

only_one : {T : Type 0} (x y : T) → Contains (x ∷ []) y → x ≡ y
only_one {T} x y (k, inside, is) = let first : k ≡ 0 = omega (arith, inside) in subst (λ (n : ℕ). slice_index_or (x ∷ []) n y ≡ y) first is

-- The least of a list.

module _ (test : ℕ → Bool) where
  pub least_none : IsLeastOf test [] None
  least_none at has passes = let inside = has.1 in omega (arith, inside)

  module _ (blocks : List Pbn) (at : Pbn) where
    -- one that is new, or was there
    either : (other : Pbn) → Contains (blocks ++ at ∷ []) other → Contains blocks other ⊎ (at ≡ other)
    either other has = elim (Contains-append_cases blocks (at ∷ []) other has) [ inl before ↦ inl before | inr own ↦ inr (only_one at other own) ]

    own : Contains (blocks ++ at ∷ []) at
    own = Contains-append_right blocks (at ∷ []) at (0, omega arith, refl)

    fails : (other : Pbn) → test at.0 ≡ false → test other.0 ≡ true → at ≡ other → ⊥
    fails other no_pass passes same = let both : true ≡ false = sym passes ∙ ap (λ (p : Pbn). test p.0) (sym same) ∙ no_pass in cc both

    pub least_passed : (least : Option Pbn) → test at.0 ≡ false → IsLeastOf test blocks least → IsLeastOf test (blocks ++ at ∷ []) least
    least_passed None no_pass none = λ other has passes. elim (either other has) [
      | inl before ↦ none other before passes
      | inr same ↦ fails other no_pass passes same
    ]
    least_passed (Some least) no_pass (there, passes, lowest) = (
      Contains-append_left blocks (at ∷ []) least there,
      passes,
      λ other has passes'. elim (either other has) [
        | inl before ↦ lowest other before passes'
        | inr same ↦ absurd (fails other no_pass passes' same)
      ],
    )

    pub least_first : test at.0 ≡ true → IsLeastOf test blocks None → IsLeastOf test (blocks ++ at ∷ []) (Some at)
    least_first passes none = (
      own,
      passes,
      λ other has passes'. elim (either other has) [
        | inl before ↦ absurd (none other before passes')
        | inr same ↦ let equal = ap (λ (p : Pbn). p.0) same in omega (arith, equal)
      ],
    )

    pub least_lower : (least : Pbn) → test at.0 ≡ true → at.0 < least.0 → IsLeastOf test blocks (Some least) → IsLeastOf test (blocks ++ at ∷ []) (Some at)
    least_lower least passes lower (there, passed, lowest) = (
      own,
      passes,
      λ other has passes'. elim (either other has) [
        | inl before ↦ let above = lowest other before passes' in omega (arith, above, lower)
        | inr same ↦ let equal = ap (λ (p : Pbn). p.0) same in omega (arith, equal)
      ],
    )

    pub least_kept : (least : Pbn) → least.0 ≤ at.0 → IsLeastOf test blocks (Some least) → IsLeastOf test (blocks ++ at ∷ []) (Some least)
    least_kept least upper (there, passed, lowest) = (
      Contains-append_left blocks (at ∷ []) least there,
      passed,
      λ other has passes'. elim (either other has) [
        | inl before ↦ lowest other before passes'
        | inr same ↦ let equal = ap (λ (p : Pbn). p.0) same in omega (arith, equal, upper)
      ],
    )

-- Where two tests say the same, the least is the same.
pub least_as : (test other : ℕ → Bool) (blocks : List Pbn) (least : Option Pbn) → ((n : ℕ) → test n ≡ other n) → IsLeastOf test blocks least → IsLeastOf other blocks least
least_as test other blocks None same none = λ at has passes. none at has (same at.0 ∙ passes)
least_as test other blocks (Some least) same (there, passes, lowest) = (there, sym (same least.0) ∙ passes, λ at has passes'. lowest at has (same at.0 ∙ passes'))

-- The elements of a list, one after the other.

pub grown : {T : Type 0} (xs : List T) (i : ℕ) (d : T) → i < length xs → take (i + 1) xs ≡ take i xs ++ get_or xs i d ∷ []
grown xs i d inside = let one : i + 1 ≡ suc i = omega arith in ap (λ (n : ℕ). take n xs) one ∙ take-suc xs i d inside

-- The marks of pages.

no_mark : (count block : ℕ) → is_marked (replicate count false) block ≡ false
no_mark zero block = refl
no_mark (suc count) zero = refl
no_mark (suc count) (suc block) = no_mark count block

pub none_marked : (marks : List Bool) (count block : ℕ) → marks ≡ replicate count false → is_marked marks block ≡ has_page [] block
none_marked marks count block is = ap (λ (ms : List Bool). is_marked ms block) is ∙ no_mark count block

with_one : (b c : Bool) → c ≡ true → (b || (c || false)) ≡ true
with_one true true same = refl
with_one false true same = refl
with_one b false same = absurd (cc same)

without : (b c : Bool) → c ≡ false → (b || (c || false)) ≡ b
without true false same = refl
without false false same = refl
without b true same = absurd (cc same)

-- one mark more
pub mark_more : (links : List Link) (link : Link) (block : ℕ) (old new : List Bool) → link.at.0 < length old → new ≡ slice_set old link.at.0 true
    → is_marked old block ≡ has_page links block → is_marked new block ≡ has_page (links ++ link ∷ []) block
mark_more links link block old new inside is were =
    let both = list_any-append (λ (l : Link). l.at.0 == block) links (link ∷ []) in
    elim (eqb_tells link.at.0 block) [
      | inl same ↦
          ap (λ (ms : List Bool). is_marked ms block) is ∙ ap (λ (n : ℕ). is_marked (slice_set old link.at.0 true) n) (sym same.1)
          ∙ get_or-set_same old link.at.0 true false inside ∙ sym (with_one (has_page links block) (link.at.0 == block) same.0) ∙ sym both
      | inr other ↦
          ap (λ (ms : List Bool). is_marked ms block) is ∙ get_or-set_other old link.at.0 block true false (λ same. other.1 (sym same)) ∙ were
          ∙ sym (without (has_page links block) (link.at.0 == block) other.0) ∙ sym both
    ]
