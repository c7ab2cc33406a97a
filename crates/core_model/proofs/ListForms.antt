-- What the lists of the zones make of their items, in the words of the rules.
use Rattle.std.proofs.Common.{◌≡◌, ◌<◌, ◌+◌, ◌==◌, ℕ, zero, suc, not, Bool, true, false, List, [], ◌∷◌, ◌++◌, Some, slice_get, slice_set, get_or, drop, length, reverse, refl, sym, ap, ◌∙◌, cond}
use Rattle.std.specs.List.{filter}
use Rattle.std.proofs.lemmas.List.{append-nil, drop_more, reverse-append}
use Rattle.std.proofs.lemmas.Option.{same_Some}
use Rattle.core_model.specs.LogicalRules.{without}
use Rattle.core_model.specs.Steps.{posted}
use Rattle.data_vio.specs.declared.items.Item.{Item}
use Rattle.core_model.specs.LogicalData.{Lock}
use Rattle.plain_laws.specs.Sums.{total}

-- an item behind those of one list
pub posted_is : (to : ℕ) (x : Item) (lane : List Item) (lanes : List (List Item)) → slice_get lanes to ≡ Some lane → slice_set lanes to (lane ++ x ∷ []) ≡ posted to x lanes
posted_is to x lane [] got = refl
posted_is zero x lane (l ∷ ls) got = ap (λ (k : List Item). (k ++ x ∷ []) ∷ ls) (sym (same_Some _ _ got))
posted_is (suc to) x lane (l ∷ ls) got = ap (λ (ks : List (List Item)). l ∷ ks) (posted_is to x lane ls got)

-- the locks of other addresses, in either order
abbrev others : ℕ → Lock → Bool
others a lock = not (lock.at.0 == a)

without_append : (a : ℕ) (xs ys : List Lock) → without a (xs ++ ys) ≡ without a xs ++ without a ys
without_append a [] ys = refl
without_append a (x ∷ xs) ys = elim (x.at.0 == a) as (λ b. cond b (without a (xs ++ ys)) (x ∷ without a (xs ++ ys)) ≡ cond b (without a xs) (x ∷ without a xs) ++ without a ys) [
  | true ↦ without_append a xs ys
  | false ↦ ap (λ (k : List Lock). x ∷ k) (without_append a xs ys)
]

pub without_reverse : (a : ℕ) (xs : List Lock) → without a (reverse xs) ≡ reverse (filter (λ (lock : Lock). not (lock.at.0 == a)) xs)
without_reverse a [] = refl
without_reverse a (x ∷ xs) =
    ap (without a) (reverse-append (x ∷ []) xs) ∙ without_append a (reverse xs) (x ∷ [])
    ∙ (elim (x.at.0 == a) as (λ b. without a (reverse xs) ++ cond b [] (x ∷ []) ≡ reverse (cond (not b) (x ∷ filter (others a) xs) (filter (others a) xs))) [
      | true ↦ append-nil (without a (reverse xs)) ∙ without_reverse a xs
      | false ↦ ap (λ (k : List Lock). k ++ x ∷ []) (without_reverse a xs) ∙ sym (reverse-append (x ∷ []) (filter (others a) xs))
    ])

-- the items of one list, and those behind it
pub total_at : {X : Type 0} (f : List X → ℕ) (xs : List (List X)) (k : ℕ) → k < length xs → f (get_or xs k []) + total f (drop (k + 1) xs) ≡ total f (drop k xs)
total_at {X} f xs k below = sym (ap (λ (ys : List (List X)). total f ys) (drop_more xs k [] below))
