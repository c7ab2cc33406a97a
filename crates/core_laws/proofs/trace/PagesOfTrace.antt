-- The pages that the entries of a trace make: where no entry that was handed in puts a page, none is committed, linked or dropped.
use Rattle.std.proofs.Common.{◌≡◌, ◌⊎◌, ℕ, Bool, true, false, if◌then◌else◌, Option, None, Some, IsSome, List, [], ◌∷◌, ◌++◌, Contains, refl, subst, sym, ap, ◌∙◌, inl, inr, arith}
use Rattle.core_laws.proofs.Common.{AllByRecursion, Happening, MayFollow, Remapping, eqb_tells, every-map, newest, of_address, option_cases, remappings, Aborts, Enters, Logged, Makes, NewPage, Pbn, Remaps, RightTrace, Session, Sets, Trace, applied, cases_Bool, dropped, durable, journaled, Writer, same_Some}
use Rattle.blk_base.specs.Pages.{leaf_of}
use Rattle.blk_base.specs.declared.place.PageId.{PageId}
use Rattle.image_model.specs.Pages.{is_page}
use Rattle.core_model.specs.PageLinks.{IsThere, page_in}
use Rattle.core_model.specs.RightTraces.{IsLeafy}
use Rattle.core_model.proofs.TreeLinks.{page_is, page_itself}
use Rattle.core_laws.proofs.kept.Spared.{contains_cut, contains_more, leafy_kept}
use Rattle.core_laws.proofs.trace.DeskOfTrace.{durable_part}

-- an element of the second of two lists is one of both
pub contains_behind : {X : Type 0} (xs ys : List X) (x : X) → Contains ys x → Contains (xs ++ ys) x
contains_behind [] ys x has = has
contains_behind (y ∷ xs) ys x has = contains_more y (xs ++ ys) x (contains_behind xs ys x has)

pub committed_entered : (s : Session) (t : Trace) (e : Logged) → RightTrace s t → Contains (durable t) e → Contains (journaled t) e
committed_entered s t e right has = let part = durable_part s t right in subst (λ (es : List Logged). Contains es e) (sym part.1) (contains_behind part.0 (durable t) e has)

abbrev IsOf : PageId → Logged → Type 0
IsOf page (Makes r) = is_page page r.page ≡ true
IsOf page (Remaps e) = ⊥

module _ (height : ℕ) (links : PageId → Option Pbn) where
  -- an entry puts its page somewhere, and so do those behind it
  not_put : (b : Bool) (x : Pbn) (o : Option Pbn) → (if b then Some x else o) ≡ None → (b ≡ false) × (o ≡ None)
  not_put true x o none = absurd cc
  not_put false x o none = (refl, none)

  pub put_there : (es : List Logged) (p : NewPage) → Contains es (Makes p) → page_in links es p.page ≡ None → ⊥
  put_there [] p (k, low, is) none = absurd (omega (arith, low))
  put_there (Remaps e ∷ es) p has none = elim (contains_cut (Remaps e) es (Makes p) has) [
    | inl same ↦ absurd cc
    | inr rest ↦ put_there es p rest none
  ]
  put_there (Makes q ∷ es) p has none =
      let cut = not_put (is_page q.page p.page) q.at (page_in links es p.page) none in
      elim (contains_cut (Makes q) es (Makes p) has) [
        | inl same ↦ own_page q p same cut.0
        | inr rest ↦ put_there es p rest cut.1
      ]
    where
      own_page : (q p : NewPage) → Makes q ≡ Makes p → is_page q.page p.page ≡ false → ⊥
      own_page q p same off = let own : is_page q.page p.page ≡ true = subst (IsOf q.page) same (page_itself q.page) in absurd cc

  -- a page that no entry puts anywhere isn't linked
  pub unlinked_still : (s : Session) (t : Trace) (page : PageId) → RightTrace s t → page_in links (journaled t) page ≡ None → page_in links (applied t) page ≡ None
  unlinked_still s [] page right none = none
  unlinked_still s (Enters (Makes p) ∷ t) page right none = unlinked_still s t page right.2 (not_put (is_page p.page page) p.at (page_in links (journaled t) page) none).1
  unlinked_still s (Enters (Remaps e) ∷ t) page right none = unlinked_still s t page right.2 none
  unlinked_still s (Sets (Makes p) ∷ t) page right none = elim (cases_Bool (is_page p.page page)) [
    | inl here ↦
        let has = committed_entered s t (Makes p) right.2 right.0.is_committed in
        absurd (put_there (journaled t) p has (subst (λ (q : PageId). page_in links (journaled t) q ≡ None) (sym (page_is p.page page here)) none))
    | inr there ↦ rw there (unlinked_still s t page right.2 none)
  ]
  unlinked_still s (Sets (Remaps e) ∷ t) page right none = unlinked_still s t page right.2 none
  unlinked_still s (other ∷ t) page right none = unlinked_still s t page right.2 none

-- and none is dropped
pub dropped_entered : (s : Session) (t : Trace) (p : NewPage) → RightTrace s t → Contains (dropped t) (Makes p) → Contains (journaled t) (Makes p)
dropped_entered s [] p right (k, low, is) = absurd (omega (arith, low))
dropped_entered s (Enters e ∷ t) p right has = contains_more e (journaled t) (Makes p) (dropped_entered s t p right.2 has)
dropped_entered s (Aborts (Makes q) ∷ t) p right has = elim (contains_cut (Makes q) (dropped t) (Makes p) has) [
  | inl same ↦ subst (λ (e : Logged). Contains (journaled t) e) same right.0.handed_in
  | inr rest ↦ dropped_entered s t p right.2 rest
]
dropped_entered s (Aborts (Remaps e) ∷ t) p right has = elim (contains_cut (Remaps e) (dropped t) (Makes p) has) [
  | inl same ↦ absurd cc
  | inr rest ↦ dropped_entered s t p right.2 rest
]
dropped_entered s (other ∷ t) p right has = dropped_entered s t p right.2 has

-- whatever set a slot, the leaf of its address is there
pub applied_leafy : (s : Session) (t : Trace) → RightTrace s t → AllByRecursion (λ (e : Remapping). IsLeafy s t e.at.0) (remappings (applied t))
applied_leafy s [] right = tt
applied_leafy s (h ∷ t) right = by h right.0 (leafy_still h (applied_leafy s t right.2))
  where
    leafy_still : (h : Happening) → AllByRecursion (λ (e : Remapping). IsLeafy s t e.at.0) (remappings (applied t)) → AllByRecursion (λ (e : Remapping). IsLeafy s (h ∷ t) e.at.0) (remappings (applied t))
    leafy_still h all = every-map {P = λ (e : Remapping). IsLeafy s t e.at.0} {Q = λ (e : Remapping). IsLeafy s (h ∷ t) e.at.0} (λ e leaf. leafy_kept s h t e.at.0 leaf) (remappings (applied t)) all

    by : (h : Happening) → MayFollow s h t → AllByRecursion (λ (e : Remapping). IsLeafy s (h ∷ t) e.at.0) (remappings (applied t)) → AllByRecursion (λ (e : Remapping). IsLeafy s (h ∷ t) e.at.0) (remappings (applied (h ∷ t)))
    by (Sets (Remaps e)) may all = (leafy_kept s (Sets (Remaps e)) t e.at.0 may.leaf, all)
    by other may all = all

-- the newest of them, where the leaf of its address is there
pub newest_leafy : (s : Session) (t : Trace) (a : ℕ) (es : List Remapping) (e : Remapping) → AllByRecursion (λ (f : Remapping). IsLeafy s t f.at.0) es → newest (of_address a es) ≡ Some e → IsLeafy s t a
newest_leafy s t a [] e all is = absurd cc
newest_leafy s t a (f ∷ es) e all is = elim (eqb_tells f.at.0 a) [
  | inl same ↦ subst (IsLeafy s t) same.1 all.0
  | inr other ↦ newest_leafy s t a es e all.1 (rw other.0 at is)
]

-- a page that is linked is one that an entry puts there
pub linked_entered : (s : Session) (t : Trace) (page : PageId) → RightTrace s t → IsThere s.sizes.geometry.height s.links (applied t) page → IsThere s.sizes.geometry.height s.links (journaled t) page
linked_entered s t page right (inl root) = inl root
linked_entered s t page right (inr some) = elim (option_cases (page_in s.links (journaled t) page)) [
  | inl none ↦ none_some _ (unlinked_still s.sizes.geometry.height s.links s t page right none) some
  | inr there ↦ inr (rw there.1 refl)
]
  where
    none_some : (o : Option Pbn) → o ≡ None → IsSome o → IsThere s.sizes.geometry.height s.links (journaled t) page
    none_some None is some = absurd cc
    none_some (Some x) is some = absurd cc

-- so is the leaf of an address that one changes
pub leafy_entered : (s : Session) (t : Trace) (a : ℕ) → RightTrace s t → IsLeafy s t a → IsThere s.sizes.geometry.height s.links (journaled t) (leaf_of a)
leafy_entered s t a right leaf = linked_entered s t (leaf_of a) right leaf

-- a page that is linked stands where these links or an entry put it
pub linked_stands : (links : PageId → Option Pbn) (es : List Logged) (page : PageId) (x : Pbn) → page_in links es page ≡ Some x → (links page ≡ Some x) ⊎ ((w : Writer) × Contains es (Makes (record { request = w; page = page; at = x })))
linked_stands links [] page x is = inl is
linked_stands links (Remaps e ∷ es) page x is = elim (linked_stands links es page x is) [
  | inl opened ↦ inl opened
  | inr made ↦ inr (made.0, contains_more (Remaps e) es (Makes (record { request = made.0; page = page; at = x })) made.1)
]
linked_stands links (Makes p ∷ es) page x is = elim (cases_Bool (is_page p.page page)) [
  | inl here ↦
      let named : p.page ≡ page = page_is p.page page here in
      let stands : p.at ≡ x = same_Some p.at x (rw here at is) in
      inr (p.request, (0, omega arith, ap {B = Logged} (λ (q : PageId). Makes (record { request = p.request; page = q; at = p.at })) named ∙ ap {B = Logged} (λ (y : Pbn). Makes (record { request = p.request; page = page; at = y })) stands))
  | inr there ↦ elim (linked_stands links es page x (rw there at is)) [
    | inl opened ↦ inl opened
    | inr made ↦ inr (made.0, contains_more (Makes p) es (Makes (record { request = made.0; page = page; at = x })) made.1)
  ]
]
