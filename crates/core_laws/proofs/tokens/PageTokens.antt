-- The pages that a logical zone makes: how often one is listed, and without a page.
use Rattle.std.proofs.Common.{◌≡◌, ◌⊎◌, ◌+◌, ◌≤◌, true, false, List, [], ◌∷◌, refl, sym, ◌∙◌, subst, inl, inr, arith}
use Rattle.core_laws.proofs.Common.{AllByRecursion, bit, cases_Bool}
use Rattle.blk_base.specs.declared.place.PageId.{PageId}
use Rattle.image_model.specs.Pages.{is_page}
use Rattle.core_model.proofs.TreeLinks.{page_is, page_itself}
use Rattle.core_model.specs.PageTrees.{but_page, is_listed}
use Rattle.core_laws.proofs.logical.PageLists.{times}

-- two pages are one, or they differ
pub page_tells : (p q : PageId) → ((is_page p q ≡ true) × (p ≡ q)) ⊎ ((is_page p q ≡ false) × (p ≡ q → ⊥))
page_tells p q = elim (cases_Bool (is_page p q)) [
  | inl same ↦ inl (same, page_is p q same)
  | inr other ↦ inr (other, λ is. (let again : is_page q q ≡ false = subst (λ (x : PageId). is_page x q ≡ false) is other in let both = sym again ∙ page_itself q in absurd cc))
]

-- none, where all others are
pub times_apart : (page : PageId) (pages : List PageId) → AllByRecursion (λ p. p ≡ page → ⊥) pages → times page pages ≡ 0
times_apart page [] apart = refl
times_apart page (p ∷ pages) apart = elim (page_tells p page) [
  | inl same ↦ absurd (apart.0 same.1)
  | inr other ↦ rw other.0 (omega (arith, times_apart page pages apart.1))
]

-- a page is listed where it counts
pub times_listed : (page : PageId) (pages : List PageId) → 1 ≤ times page pages → is_listed page pages ≡ true
times_listed page [] some = absurd (omega (arith, some))
times_listed page (p ∷ pages) some = elim (cases_Bool (is_page p page)) [
  | inl same ↦ rw same refl
  | inr other ↦ let rest : 1 ≤ 0 + times page pages = rw other at some in rw other (times_listed page pages (omega (arith, rest)))
]

-- without a page there is none of it, and of each other page there are as many
pub but_none : (page : PageId) (pages : List PageId) → times page (but_page page pages) ≡ 0
but_none page [] = refl
but_none page (p ∷ pages) = elim (cases_Bool (is_page p page)) [
  | inl same ↦ rw same (but_none page pages)
  | inr other ↦ rw (other, other) (omega (arith, but_none page pages))
]

pub but_others : (page other : PageId) (pages : List PageId) → (page ≡ other → ⊥) → times other (but_page page pages) ≡ times other pages
but_others page other [] ne = refl
but_others page other (p ∷ pages) ne = elim (page_tells p page) [
  | inl same ↦
      let apart : is_page p other ≡ false = elim (page_tells p other) [ inl is ↦ absurd (ne (sym same.1 ∙ is.1)) | inr differs ↦ differs.0 ] in
      rw (same.0, apart) (omega (arith, but_others page other pages ne))
  | inr differs ↦ rw differs.0 (omega (arith, but_others page other pages ne))
]

-- so a page that is there once is taken out, and no other
pub taken_out : (page other : PageId) (pages : List PageId) → times page pages ≡ 1 → times other (but_page page pages) + bit (is_page page other) ≡ times other pages
taken_out page other pages once = elim (page_tells page other) [
  | inl same ↦
      let none = subst (λ (p : PageId). times p (but_page page pages) ≡ 0) same.1 (but_none page pages) in
      let one = subst (λ (p : PageId). times p pages ≡ 1) same.1 once in
      rw same.0 (omega (arith, none, one))
  | inr differs ↦ let rest = but_others page other pages differs.1 in rw differs.0 (omega (arith, rest))
]
