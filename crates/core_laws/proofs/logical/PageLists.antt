-- Lists of pages: one more at the end, and without a page.
use Rattle.std.proofs.Common.{◌≡◌, ℕ, ◌+◌, ◌<◌, ◌≤◌, true, false, List, [], ◌∷◌, ◌++◌, length, refl, sym, subst, inl, inr, arith}
use Rattle.std.proofs.lemmas.Bool.{cases_Bool}
use Rattle.std.specs.List.{AllByRecursion}
use Rattle.blk_base.specs.declared.place.PageId.{PageId}
use Rattle.image_model.specs.Pages.{is_page}
use Rattle.plain_laws.specs.Sums.{bit, total}
use Rattle.core_model.proofs.TreeLinks.{page_is}
use Rattle.core_laws.proofs.lists.CoreLists.{or_none}
use Rattle.core_model.specs.PageTrees.{but_page, is_listed}

-- how often a page is listed
abbrev pub times : PageId → List PageId → ℕ
times page pages = total (λ other. bit (is_page other page)) pages

pub times_none : (page : PageId) (pages : List PageId) → is_listed page pages ≡ false → times page pages ≡ 0
times_none page [] none = refl
times_none page (other ∷ pages) none = elim (cases_Bool (is_page other page)) [
  | inl here ↦ absurd (let no : true ≡ false = rw here at none in cc)
  | inr there ↦ rw there (omega (arith, times_none page pages (rw there at none)))
]

-- a page that is listed is so once at least
pub listed_times : (page : PageId) (pages : List PageId) → is_listed page pages ≡ true → 1 ≤ times page pages
listed_times page [] some = absurd cc
listed_times page (other ∷ pages) some = elim (cases_Bool (is_page other page)) [
  | inl here ↦ rw here (omega arith)
  | inr there ↦ let rest = listed_times page pages (rw there at some) in rw there (omega (arith, rest))
]

pub some_listed : (page : PageId) (pages : List PageId) → is_listed page pages ≡ true → 0 < length pages
some_listed page [] some = absurd cc
some_listed page (other ∷ pages) some = omega arith

-- One more: who is listed, how often, and what holds of each.
pub listed_more : (page last : PageId) (pages : List PageId) → is_listed page pages ≡ true → is_listed page (pages ++ last ∷ []) ≡ true
listed_more page last [] some = absurd cc
listed_more page last (other ∷ pages) some = elim (cases_Bool (is_page other page)) [
  | inl here ↦ rw here refl
  | inr there ↦ rw there (listed_more page last pages (rw there at some))
]

pub listed_cut : (page last : PageId) (pages : List PageId) → is_listed page (pages ++ last ∷ []) ≡ false → (is_listed page pages ≡ false) × (is_page last page ≡ false)
listed_cut page last [] none = elim (cases_Bool (is_page last page)) [
  | inl here ↦ absurd (let no : true ≡ false = rw here at none in cc)
  | inr there ↦ (refl, there)
]
listed_cut page last (other ∷ pages) none = elim (cases_Bool (is_page other page)) [
  | inl here ↦ absurd (let no : true ≡ false = rw here at none in cc)
  | inr there ↦ let rest = listed_cut page last pages (rw there at none) in (rw there rest.0, rest.1)
]

pub times_more : (page last : PageId) (pages : List PageId) → times page (pages ++ last ∷ []) ≡ times page pages + bit (is_page last page)
times_more page last [] = omega arith
times_more page last (other ∷ pages) = omega (arith, times_more page last pages)

-- Without a page: each other one stays, and nothing comes to it.
pub struck_all : (P : PageId → Type 0) (page : PageId) (pages : List PageId) → AllByRecursion P pages → AllByRecursion P (but_page page pages)
struck_all P page [] all = tt
struck_all P page (other ∷ pages) all = elim (cases_Bool (is_page other page)) [
  | inl here ↦ rw here (struck_all P page pages all.1)
  | inr there ↦ rw there (all.0, struck_all P page pages all.1)
]

pub struck_times : (p page : PageId) (pages : List PageId) → times p (but_page page pages) ≤ times p pages
struck_times p page [] = omega arith
struck_times p page (other ∷ pages) = elim (cases_Bool (is_page other page)) [
  | inl here ↦ rw here (omega (arith, struck_times p page pages))
  | inr there ↦ rw there (omega (arith, struck_times p page pages))
]

pub struck_cut : (p page : PageId) (pages : List PageId) → is_page page p ≡ false → is_listed p (but_page page pages) ≡ false → is_listed p pages ≡ false
struck_cut p page [] apart none = refl
struck_cut p page (other ∷ pages) apart none = elim (cases_Bool (is_page other page)) [
  | inl here ↦
      let off : is_page other p ≡ false = subst (λ (q : PageId). is_page q p ≡ false) (sym (page_is other page here)) apart in
      rw off (struck_cut p page pages apart (rw here at none))
  | inr there ↦
      let both = or_none (is_page other p) (is_listed p (but_page page pages)) (rw there at none) in
      rw both.0 (struck_cut p page pages apart both.1)
]
