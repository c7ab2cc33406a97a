-- Lists that are gone through from the first item on, and a page that is looked for among others.
use Rattle.std.proofs.Common.{ℕ, ◌≡◌, ◌⊎◌, ◌+◌, ◌<◌, ◌&&◌, true, eqb, ap, ap₂, map, List, [], ◌∷◌, ◌++◌, Contains, length, get_or, take, refl, sym, ◌∙◌, subst, inl, inr, add-one}
use Rattle.std.proofs.Math.Seq.{take-suc}
use Rattle.std.proofs.lemmas.Bool.Decides.{eqb_tells}
use Rattle.std.proofs.lemmas.List.{map-append}
use Rattle.std.proofs.lemmas.List.Elements.{Contains-push_cases}
use Rattle.blk_base.specs.declared.place.PageId.{PageId}

-- one of those up to the next is one of those before, or the next
pub before_or_next : {X : Type 0} (xs : List X) (i : ℕ) (next other : X) → i < length xs → next ≡ get_or xs i next → Contains (take (i + 1) xs) other → Contains (take i xs) other ⊎ (next ≡ other)
before_or_next {X} xs i next other inside is has =
    elim (Contains-push_cases (take i xs) (get_or xs i next) other (subst (λ (l : List X). Contains l other) (take-suc xs i next inside) (rw add-one at has))) [
      | inl earlier ↦ inl earlier
      | inr same ↦ inr (is ∙ same)
    ]

-- a test of all parts of a page finds it the same as itself
same_number : (n : ℕ) → eqb n n ≡ true
same_number n = elim (eqb_tells n n) [ inl same ↦ same.0 | inr other ↦ absurd (other.1 refl) ]

pub test_finds : (page other : PageId) → page ≡ other → (eqb page.tree other.tree && (eqb page.level other.level && eqb page.index other.index)) ≡ true
test_finds page other same =
    subst (λ (p : PageId). (eqb page.tree p.tree && (eqb page.level p.level && eqb page.index p.index)) ≡ true) same
    (rw (same_number page.tree, same_number page.level, same_number page.index) refl)

-- What is made of a list item by item.
next_is : {X : Type 0} (xs : List X) (i : ℕ) (d : X) → i < length xs → take (i + 1) xs ≡ take i xs ++ get_or xs i d ∷ []
next_is xs i d inside = rw add-one (take-suc xs i d inside)

module _ {X Y : Type 0} (xs : List X) (i : ℕ) (d : X) (inside : i < length xs) where
  pub made_next : (f : X → Y) (ys more : List Y) (y : Y) → ys ≡ map f (take i xs) → y ≡ f (get_or xs i d) → more ≡ ys ++ y ∷ [] → more ≡ map f (take (i + 1) xs)
  made_next f ys more y were is grown =
      grown ∙ ap₂ (λ (front : List Y) (last : Y). front ++ last ∷ []) were is ∙ sym (map-append f (take i xs) (get_or xs i d ∷ [])) ∙ ap (λ (l : List X). map f l) (sym (next_is xs i d inside))

  pub named_next : (name : Y → X) (ys more : List Y) (y : Y) → map name ys ≡ take i xs → name y ≡ get_or xs i d → more ≡ ys ++ y ∷ [] → map name more ≡ take (i + 1) xs
  named_next name ys more y were is grown =
      ap (λ (l : List Y). map name l) grown ∙ map-append name ys (y ∷ []) ∙ ap₂ (λ (front : List X) (last : X). front ++ last ∷ []) were is ∙ sym (next_is xs i d inside)
