-- The tree pages of a slab, as they are found one after the other.
use Rattle.std.specs.Prelude.{ℕ, ◌≡◌, ◌+◌, ◌-◌, ◌<◌, ◌⊎◌, Bool, true, false, List, [], ◌∷◌, ◌++◌, length, replicate, Contains, ◌↔◌}
use Rattle.std.proofs.Common.{sym, ◌∙◌, ap, subst, arith, inl, inr, get_or, set, get_or-set_same, get_or-set_other}
use Rattle.std.proofs.lemmas.Bool.{cases_eq, cases_lt, false≢true}
use Rattle.std.proofs.lemmas.List.{get_or-replicate}
use Rattle.std.proofs.lemmas.List.Elements.{Contains-append_left, Contains-push, Contains-push_cases}
use Rattle.blk_base.specs.Regions.{slab_start_of}
use Rattle.blk_base.specs.declared.geometry.Geometry.{Geometry}
use Rattle.blk_base.specs.declared.place.Pbn.{Pbn}
use Rattle.slab_counts.specs.Counts.{Counts, IsOfSlab, IsOpening, offset_of, with_page}
use Rattle.slab_counts.specs.Kept.{IsWithin}

-- no block of the slab has a tree page as yet
pub none_yet : (pages : List Bool) (count place : ℕ) (at : Pbn) → pages ≡ replicate count false → place < count → (get_or pages place false ≡ true) ↔ Contains [] at
none_yet pages count place at are inside = (
  (λ is. absurd (false≢true (sym (ap (λ (list : List Bool). get_or list place false) are ∙ get_or-replicate count place false false inside) ∙ is))),
  (λ one. absurd (omega (arith, one.1))),
)

-- a block is of the slab, or isn't
of_slab_or_not : (c : Counts) (at : Pbn) → IsOfSlab c at ⊎ ¬ IsOfSlab c at
of_slab_or_not c at = elim (cases_lt at.0 (slab_start_of c.geometry c.slab)) [
  | inl before ↦ inr (λ is. omega (arith, is.0, before))
  | inr from ↦ elim (cases_lt at.0 (slab_start_of c.geometry c.slab + c.geometry.slab_blocks)) [
    | inl inside ↦ inl (omega (arith, from), inside)
    | inr behind ↦ inr (λ is. omega (arith, is.1, behind))
  ]
]

module _ (g : Geometry) (number : ℕ) (all : List ℕ) (among : List Pbn) (c : Counts) (at : Pbn) (are : IsOpening g number all among c) where
  -- one tree page more, at a block of the slab
  page_here : IsWithin c → IsOfSlab c at → IsOpening g number all (among ++ at ∷ []) (with_page c at)
  page_here within own = record {
    geometry = are.geometry;
    slab = are.slab;
    counters = are.counters;
    claims = are.claims;
    pages = λ x here. elim (cases_eq x.0 at.0) [
      | inl same ↦
          let block : at ≡ x = ap (λ (n : ℕ). record { 0 = n }) (sym same) in
          let offset : offset_of c x ≡ offset_of c at = ap (λ (n : ℕ). n - slab_start_of c.geometry c.slab) same in
          let inside : offset_of c at < length c.pages = omega (arith, own.0, own.1, within.pages) in (
            (λ is. subst (λ (b : Pbn). Contains (among ++ at ∷ []) b) block (Contains-push among at)),
            (λ one. ap (λ (n : ℕ). get_or (set c.pages (offset_of c at) true) n false) offset ∙ get_or-set_same c.pages (offset_of c at) true false inside),
          )
      | inr other ↦
          let apart : offset_of c x ≡ offset_of c at → ⊥ = λ is. other (omega (arith, is, own.0, here.0)) in
          let stays = get_or-set_other c.pages (offset_of c at) (offset_of c x) true false apart in (
            (λ is. Contains-append_left among (at ∷ []) x ((are.pages x here).0 (sym stays ∙ is))),
            (λ one. stays ∙ (are.pages x here).1
                (elim (Contains-push_cases among at x one) [ inl found ↦ found | inr last ↦ absurd (other (sym (ap (λ (b : Pbn). b.0) last))) ])),
          )
    ];
  }

  -- one tree page more, elsewhere
  pub page_elsewhere : ¬ IsOfSlab c at → IsOpening g number all (among ++ at ∷ []) c
  page_elsewhere foreign = record {
    geometry = are.geometry;
    slab = are.slab;
    counters = are.counters;
    claims = are.claims;
    pages = λ x here. (
      (λ is. Contains-append_left among (at ∷ []) x ((are.pages x here).0 is)),
      (λ one. (are.pages x here).1
          (elim (Contains-push_cases among at x one) [ inl found ↦ found | inr last ↦ absurd (foreign (subst (λ (b : Pbn). IsOfSlab c b) (sym last) here)) ])),
    );
  }

  -- one tree page more, which is noted where it is one of the slab
  pub page_more : (new : Counts) → IsWithin c → (IsOfSlab c at → new ≡ with_page c at) → (¬ IsOfSlab c at → new ≡ c) → IsOpening g number all (among ++ at ∷ []) new
  page_more new within own foreign = elim (of_slab_or_not c at) [
    | inl here ↦ subst (λ (n : Counts). IsOpening g number all (among ++ at ∷ []) n) (sym (own here)) (page_here within here)
    | inr there ↦ subst (λ (n : Counts). IsOpening g number all (among ++ at ∷ []) n) (sym (foreign there)) (page_elsewhere there)
  ]
