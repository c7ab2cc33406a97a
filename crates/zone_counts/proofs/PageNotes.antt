-- The tree pages of an image, as they are noted one after the other in the slabs of a zone.
use Rattle.std.specs.Prelude.{ℕ, ◌≡◌, ◌<◌, ◌+◌, ◌*◌, List, [], ◌∷◌, ◌++◌, length}
use Rattle.std.proofs.Common.{sym, ◌∙◌, ap, subst, arith, inl, inr, set, get_or-set_same, get_or-set_other, length-set}
use Rattle.std.proofs.lemmas.Bool.{cases_eq}
use Rattle.blk_base.specs.declared.geometry.Geometry.{Geometry}
use Rattle.blk_base.specs.declared.place.Pbn.{Pbn}
use Rattle.slab_counts.specs.Counts.{Counts, IsOfSlab, IsOpening, with_page}
use Rattle.slab_counts.specs.Kept.{IsWithin}
use Rattle.slab_counts.proofs.OpeningLaws.{page_elsewhere, page_more}
use Rattle.zone_counts.specs.Zone.{AreOpenedWith, AreSlabs, IsOf, nowhere, slab_at}
use Rattle.zone_counts.proofs.ClaimLaws.{is_of, place_is}

module _ (g : Geometry) (zone zones : ℕ) (slabs : List Counts) (at : Pbn) (are : AreSlabs g zone zones slabs) where
  -- a block of no slab of the zone
  pub page_passed : (counters : List ℕ) (pages : List Pbn) (count : ℕ) → ¬ IsOf g zone zones at → AreOpenedWith g counters pages zone zones count slabs
      → AreOpenedWith g counters (pages ++ at ∷ []) zone zones count slabs
  page_passed counters pages count foreign opened = record {
    length_is = opened.length_is;
    each = λ k below.
        let one = opened.each k below in
        let there : k < length slabs = omega (arith, below, opened.length_is) in
        (page_elsewhere g (k * zones + zone) counters pages (slab_at slabs k) at one.0 (λ here. foreign (is_of g zone zones slabs k at are there here)), one.1);
  }

  -- a block of one slab
  module _ (k : ℕ) (new : Counts) (there : k < length slabs) (own : IsOfSlab (slab_at slabs k) at) (is : new ≡ with_page (slab_at slabs k) at) (within : IsWithin new) where
    here : slab_at (set slabs k new) k ≡ new
    here = get_or-set_same slabs k new nowhere there

    other : (j : ℕ) → ¬ (j ≡ k) → slab_at (set slabs k new) j ≡ slab_at slabs j
    other j apart = get_or-set_other slabs k j new nowhere apart

    pub page_noted : (counters : List ℕ) (pages : List Pbn) (count : ℕ) → AreOpenedWith g counters pages zone zones count slabs
        → AreOpenedWith g counters (pages ++ at ∷ []) zone zones count (set slabs k new)
    page_noted counters pages count opened = record {
      length_is = length-set slabs k new ∙ opened.length_is;
      each = λ j below.
          let one = opened.each j below in
          let inside : j < length slabs = omega (arith, below, opened.length_is) in
          elim (cases_eq j k) [
            | inl same ↦
                let now : slab_at (set slabs k new) j ≡ new = ap (λ (n : ℕ). slab_at (set slabs k new) n) same ∙ here in
                let old : IsOpening g (j * zones + zone) counters pages (slab_at slabs k) = subst (λ (n : ℕ). IsOpening g (j * zones + zone) counters pages (slab_at slabs n)) same one.0 in
                let noted : IsOpening g (j * zones + zone) counters (pages ++ at ∷ []) new
                = page_more g (j * zones + zone) counters pages (slab_at slabs k) at old new (are.each k there).2 (λ mine. is) (λ foreign. absurd (foreign own)) in
                (subst (λ (c : Counts). IsOpening g (j * zones + zone) counters (pages ++ at ∷ []) c) (sym now) noted, subst (λ (c : Counts). IsWithin c) (sym now) within)
            | inr apart ↦
                let now = other j apart in
                let foreign : ¬ IsOfSlab (slab_at slabs j) at
                = λ mine. apart (sym (place_is g zone zones slabs j at are inside mine) ∙ place_is g zone zones slabs k at are there own) in
                let passed : IsOpening g (j * zones + zone) counters (pages ++ at ∷ []) (slab_at slabs j)
                = page_elsewhere g (j * zones + zone) counters pages (slab_at slabs j) at one.0 foreign in
                (subst (λ (c : Counts). IsOpening g (j * zones + zone) counters (pages ++ at ∷ []) c) (sym now) passed, subst (λ (c : Counts). IsWithin c) (sym now) one.1)
          ];
    }
