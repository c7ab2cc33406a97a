-- For each clause on the page that a look asks for, a case that it accepts, and one that breaks it alone.
use Rattle.std.specs.Prelude.{ℕ, ◌≡◌, ◌+◌, ◌*◌, ◌%◌, ◌/◌, min, List, [], ◌∷◌, Contains, slice_index_or, refl}
use Rattle.std.proofs.Common.{◌∙◌, ap, subst, arith, inl, inr}
use Rattle.uds_index.specs.Looks.{AsksInOrder, IsFirstToAsk, IsNamePage, IsNew, NeedsNone, NoneToAsk}
use Rattle.uds_index.specs.declared.index_search.Region.{Region}
use Rattle.uds_index.proofs.LookRows.{chapter}
use Rattle.blk_base.specs.declared.place.Pbn.{Pbn}
use Rattle.index_advice.specs.declared.look.Look.TheVariants.{Known, Nothing, Read}

abbrev name : List ℕ
name = 7 ∷ 0 ∷ 0 ∷ 0 ∷ []

-- the name would stand on the first page of chapters 5 and 4, which have no records: of two places from block 69 on these are
-- the blocks 73 and 69
page_of_five : IsNamePage 69 2 name 73 (chapter 5)
page_of_five = record { place = 0; inside = omega arith; stands = inr ((λ k d from below. absurd (omega (arith, below))), (λ k d past inside. absurd (omega (arith, inside)))); block = refl }

page_of_four : IsNamePage 69 2 name 69 (chapter 4)
page_of_four = record { place = 0; inside = omega arith; stands = inr ((λ k d from below. absurd (omega (arith, below))), (λ k d past inside. absurd (omega (arith, inside)))); block = refl }

one_page : (number at : ℕ) → IsNamePage 69 2 name at (chapter number) → at ≡ 69 + 4 * (number % 2)
one_page number at is =
    let none : is.place ≡ 0 = omega (arith, is.inside) in
    is.block ∙ ap (λ (p : ℕ). 69 + 4 * (number % 2) + min (p / 170) 3) none ∙ (let whole : 69 + 4 * (number % 2) + 0 ≡ 69 + 4 * (number % 2) = omega arith in whole)

the_next_block : ¬ IsNamePage 69 2 name 74 (chapter 5)
the_next_block = λ is. let no' = one_page 5 74 is in omega (arith, no')

-- a block that may be asked for
pub nothing_known : (at : ℕ) → IsNew 69 [] [] at
nothing_known at = record { uncached = λ there. absurd (omega (arith, there.1)); new = λ there. absurd (omega (arith, there.1)); few_of_chapter = omega arith; few = omega arith }

pub only : (x y : ℕ) → Contains (x ∷ []) y → x ≡ y
only x y (k, inside, is) = let first : k ≡ 0 = omega (arith, inside) in subst (λ (n : ℕ). slice_index_or (x ∷ []) n y ≡ y) first is

pub new_beside : (x at : ℕ) → (x ≡ at → ⊥) → IsNew 69 (x ∷ []) [] at
new_beside x at other = record { uncached = λ there. other (only x at there); new = λ there. absurd (omega (arith, there.1)); few_of_chapter = omega arith; few = omega arith }

abbrev pub region : Region
region = record { first = 69; places = 2 }

-- NeedsNone
cached_needs_none : NeedsNone region (73 ∷ []) [] name (chapter 5)
cached_needs_none = (73, page_of_five, λ new. new.uncached (0, omega arith, refl))

uncached_needs_its_page : ¬ NeedsNone region [] [] name (chapter 5)
uncached_needs_its_page = λ none. none.2 (nothing_known none.0)

another_page_is_cached : ¬ NeedsNone region (74 ∷ []) [] name (chapter 5)
another_page_is_cached = λ none. let at = one_page 5 none.0 none.1 in none.2 (new_beside 74 none.0 (λ same. omega (arith, same, at)))

-- NoneToAsk: an index that never asks is refused
all_cached : NoneToAsk region (73 ∷ 69 ∷ []) [] name (chapter 5 ∷ chapter 4 ∷ [])
all_cached = ((73, page_of_five, λ new. new.uncached (0, omega arith, refl)), λ none. ((69, page_of_four, λ new. new.uncached (1, omega arith, refl)), λ gone. tt))

never_asks : ¬ NoneToAsk region [] [] name (chapter 5 ∷ [])
never_asks = λ none. uncached_needs_its_page none.0

a_later_one_left_out : ¬ NoneToAsk region (73 ∷ []) [] name (chapter 5 ∷ chapter 4 ∷ [])
a_later_one_left_out = λ none. let later = (none.1 refl).0 in let at = one_page 4 later.0 later.1 in later.2 (new_beside 73 later.0 (λ same. omega (arith, same, at)))

-- IsFirstToAsk
first_of_two : IsFirstToAsk region [] [] name 73 (chapter 5 ∷ chapter 4 ∷ [])
first_of_two = inl (page_of_five, nothing_known 73)

second_of_two : IsFirstToAsk region (73 ∷ []) [] name 69 (chapter 5 ∷ chapter 4 ∷ [])
second_of_two = inr (cached_needs_none, refl, inl (page_of_four, new_beside 73 69 (λ same. omega (arith, same))))

second_before_the_first : ¬ IsFirstToAsk region [] [] name 69 (chapter 5 ∷ chapter 4 ∷ [])
second_before_the_first = λ is. elim is [ inl own ↦ let no' = one_page 5 69 own.0 in omega (arith, no') | inr later ↦ uncached_needs_its_page later.0 ]

-- AsksInOrder
a_page_is_asked_for : AsksInOrder region (chapter 5 ∷ []) [] [] name (Read (record { 0 = 73 }))
a_page_is_asked_for = inl (page_of_five, nothing_known 73)

nothing_without_asking : ¬ AsksInOrder region (chapter 5 ∷ []) [] [] name Nothing
nothing_without_asking = never_asks

known_without_asking : (at : Pbn) → ¬ AsksInOrder region (chapter 5 ∷ []) [] [] name (Known at)
known_without_asking at = never_asks
