-- The greatest points that were applied to the sectors.
use Rattle.std.proofs.Common.{ℕ, suc, ◌≡◌, ◌≢◌, ◌⊎◌, ◌+◌, ◌<◌, ◌≤◌, max, List, [], ◌∷◌, ◌++◌, length, get_or, take, Contains, refl, sym, ◌∙◌, ap, subst, inl, inr, arith, get_or-set_same, get_or-set_other}
use Rattle.std.proofs.Math.Nat.{le-max_left, le-max_right, max-eq_left, max-eq_right}
use Rattle.std.proofs.Math.Seq.{take-suc}
use Rattle.std.proofs.lemmas.Bool.{cases_lt}
use Rattle.std.proofs.lemmas.Bool.Decides.{eqb_tells}
use Rattle.std.proofs.lemmas.List.{length-set, get_or_default}
use Rattle.std.proofs.lemmas.List.Elements.{Contains-append_left, Contains-append_right, Contains-append_cases}
use Rattle.blk_base.specs.Points.{raised}
use Rattle.blk_base.specs.Regions.{DataBlock, IsDataBlock}
use Rattle.blk_base.proofs.RegionLaws.{apart}
use Rattle.blk_base.specs.declared.geometry.Geometry.{Geometry}
use Rattle.blk_base.specs.declared.journal_entry.Update.{Update}
use Rattle.blk_base.specs.declared.layout.DataPlace.{DataPlace}
use Rattle.blk_base.specs.declared.point.Point.{Point}
use Rattle.image_model.specs.Counts.{block_of_data}
use Rattle.image_model.specs.Sound.{IsDataPlace}
use Rattle.image_model.proofs.CountLaws.{is_first_or_behind, is_first, none_in_nothing}
use Rattle.count_updates.specs.Applied.{IsGreatest, IsOfSector, AreApplied}
use Rattle.count_updates.specs.Counted.{commit_in}
use Rattle.count_updates.specs.Listed.{Lists}
use Rattle.count_updates.specs.Numbers.{sector_number}
use Rattle.count_updates.proofs.PointLaws.{made}

-- The greatest of some points, and of one more.

module _ (commit : ℕ) (Is Now : ℕ → Type 0) (applied : ℕ) (was : IsGreatest commit Is applied) (still : (p : ℕ) → Is p → Now p) where
  none_more : ((p : ℕ) → Now p → Is p) → IsGreatest commit Now applied
  none_more back = record {
    reached = elim was.reached [ inl none ↦ inl none | inr (more, is) ↦ inr (more, still applied is) ];
    most = λ point above is. was.most point above (back point is);
  }

  at_commit : commit ≤ applied
  at_commit = elim was.reached [ inl none ↦ omega (arith, none) | inr (more, is) ↦ omega (arith, more) ]

  one_more : (q : ℕ) → Now q → ((p : ℕ) → Now p → Is p ⊎ (p ≡ q)) → IsGreatest commit Now (max applied q)
  one_more q now back = record {
    reached = elim (cases_lt applied q) [
      | inl less ↦ subst (λ (n : ℕ). (n ≡ commit) ⊎ ((commit < n) × Now n)) (sym (max-eq_right {n = applied} {m = q} (omega (arith, less)))) (inr (let from = at_commit in omega (arith, from, less), now))
      | inr most ↦ subst (λ (n : ℕ). (n ≡ commit) ⊎ ((commit < n) × Now n)) (sym (max-eq_left {n = applied} {m = q} most))
          (elim was.reached [ inl none ↦ inl none | inr (more, is) ↦ inr (more, still applied is) ])
    ];
    most = λ point above is. elim (back point is) [
      | inl old ↦ let low = was.most point above old in let up = le-max_left applied q in omega (arith, low, up)
      | inr same ↦ let up = le-max_right applied q in omega (arith, same, up)
    ];
  }

-- One update more.

module _ (g : Geometry) (updates : List Update) (i : ℕ) (d : Update) (inside : i < length updates) where
  abbrev update : Update
  update = get_or updates i d

  next_is : take (i + 1) updates ≡ take i updates ++ (update ∷ [])
  next_is = let next : i + 1 ≡ suc i = omega arith in rw next (take-suc updates i d inside)

  still_listed : (number point : ℕ) → IsOfSector g (take i updates) number point → IsOfSector g (take (i + 1) updates) number point
  still_listed number point (place, within, is_number, has) = (
    place,
    within,
    is_number,
    subst (λ (us : List Update). Lists us (block_of_data g place).0 point) (sym next_is)
        (Contains-append_left (take i updates) (update ∷ []) (made (block_of_data g place).0 point) has),
  )

  was_listed : (number point : ℕ) → IsOfSector g (take (i + 1) updates) number point
      → IsOfSector g (take i updates) number point
      ⊎ ((place : DataPlace) × IsDataPlace g place × (sector_number g place ≡ number) × (update.at.0 ≡ (block_of_data g place).0) × (update.point.0 ≡ point))
  was_listed number point (place, within, is_number, has) =
      let one = made (block_of_data g place).0 point in
      elim (Contains-append_cases (take i updates) (update ∷ []) one (subst (λ (us : List Update). Lists us (block_of_data g place).0 point) next_is has)) [
        | inl old ↦ inl (place, within, is_number, old)
        | inr new ↦ elim (is_first_or_behind update [] one new) [
          | inl same ↦ inr (place, within, is_number, ap (λ (u : Update). u.at.0) same, ap (λ (u : Update). u.point.0) same)
          | inr behind ↦ absurd (none_in_nothing one behind)
        ]
      ]

  -- of no data block
  none_applied : (commits applied : List Point) → (IsDataBlock g update.at.0 → ⊥) → AreApplied g (take i updates) commits applied → AreApplied g (take (i + 1) updates) commits applied
  none_applied commits applied no_block were = record {
    size = were.size;
    each = λ number below. none_more (commit_in commits number) (IsOfSector g (take i updates) number) (IsOfSector g (take (i + 1) updates) number) (commit_in applied number)
        (were.each number below) (still_listed number) (λ point is. elim (was_listed number point is) [
          | inl old ↦ old
          | inr (place, within, is_number, block, same) ↦ absurd (no_block (record { slab = place.slab; offset = place.offset; inside = within; stands = sym block }))
        ]);
  }

  -- of this one
  module _ (place : DataPlace) (within : IsDataPlace g place) (stands : (block_of_data g place).0 ≡ update.at.0) where
    only_place : (other : DataPlace) → IsDataPlace g other → update.at.0 ≡ (block_of_data g other).0 → sector_number g other ≡ sector_number g place
    only_place other inside_too block =
        let same : DataBlock other.slab other.offset ≡ DataBlock place.slab place.offset =
        apart g (DataBlock other.slab other.offset) (DataBlock place.slab place.offset) inside_too within (sym block ∙ sym stands) in
        let slabs : other.slab ≡ place.slab = cc same in
        let offsets : other.offset ≡ place.offset = cc same in
        rw (slabs, offsets) refl

    elsewhere : (number point : ℕ) → number ≢ sector_number g place → IsOfSector g (take (i + 1) updates) number point → IsOfSector g (take i updates) number point
    elsewhere number point other is = elim (was_listed number point is) [
      | inl old ↦ old
      | inr (found, inside_too, is_number, block, same) ↦ absurd (other (sym is_number ∙ only_place found inside_too block))
    ]

    now_listed : IsOfSector g (take (i + 1) updates) (sector_number g place) update.point.0
    now_listed = (
      place,
      within,
      refl,
      subst (λ (us : List Update). Lists us (block_of_data g place).0 update.point.0) (sym next_is)
          (Contains-append_right (take i updates) (update ∷ []) (made (block_of_data g place).0 update.point.0)
          (subst (λ (n : ℕ). Contains (update ∷ []) (made n update.point.0)) (sym stands) (is_first update []))),
    )

    at_sector : (commits applied : List Point) (number : ℕ) → number < length commits → AreApplied g (take i updates) commits applied → number ≡ sector_number g place
        → IsGreatest (commit_in commits number) (IsOfSector g (take (i + 1) updates) number) (commit_in (raised applied number update.point) number)
    at_sector commits applied number below were here =
        let low : number < length applied = let size = were.size in omega (arith, size, below) in
        let value : commit_in (raised applied number update.point) number ≡ max (commit_in applied number) update.point.0 =
        ap (λ (p : Point). p.0) (get_or-set_same applied number (record { 0 = max (get_or applied number update.point).0 update.point.0 }) (record { 0 = 0 }) low)
        ∙ ap (λ (p : Point). max p.0 update.point.0) (get_or_default applied number update.point (record { 0 = 0 }) low) in
        subst (λ (n : ℕ). IsGreatest (commit_in commits number) (IsOfSector g (take (i + 1) updates) number) n) (sym value)
        (one_more (commit_in commits number) (IsOfSector g (take i updates) number) (IsOfSector g (take (i + 1) updates) number) (commit_in applied number)
        (were.each number below) (still_listed number) update.point.0
        (subst (λ (n : ℕ). IsOfSector g (take (i + 1) updates) n update.point.0) (sym here) now_listed)
        (λ point is. elim (was_listed number point is) [ inl old ↦ inl old | inr new ↦ inr (sym new.4) ]))

    one_applied : (commits applied : List Point) (sector : ℕ) → sector ≡ sector_number g place → AreApplied g (take i updates) commits applied
        → AreApplied g (take (i + 1) updates) commits (raised applied sector update.point)
    one_applied commits applied sector here were = record {
      size = length-set applied sector (record { 0 = max (get_or applied sector update.point).0 update.point.0 }) ∙ were.size;
      each = λ number below. elim (eqb_tells number sector) [
        | inl same ↦ subst (λ (s : ℕ). IsGreatest (commit_in commits number) (IsOfSector g (take (i + 1) updates) number) (commit_in (raised applied s update.point) number)) same.1
            (at_sector commits applied number below were (same.1 ∙ here))
        | inr other ↦
            let value : commit_in (raised applied sector update.point) number ≡ commit_in applied number =
            ap (λ (p : Point). p.0) (get_or-set_other applied sector number (record { 0 = max (get_or applied sector update.point).0 update.point.0 }) (record { 0 = 0 }) other.1) in
            subst (λ (n : ℕ). IsGreatest (commit_in commits number) (IsOfSector g (take (i + 1) updates) number) n) (sym value)
            (none_more (commit_in commits number) (IsOfSector g (take i updates) number) (IsOfSector g (take (i + 1) updates) number) (commit_in applied number)
            (were.each number below) (still_listed number) (λ point is. elsewhere number point (λ same. other.1 (same ∙ sym here)) is))
      ];
    }

-- the same for a list that is known by another name
module _ (g : Geometry) (all updates : List Update) (same : all ≡ updates) (i : ℕ) (d : Update) (inside : i < length all) (commits applied : List Point)
    (were : AreApplied g (take i updates) commits applied) where
  pub none_of_list : (IsDataBlock g (get_or all i d).at.0 → ⊥) → AreApplied g (take (i + 1) updates) commits applied
  none_of_list no_block =
      subst (λ (us : List Update). AreApplied g (take i us) commits applied → AreApplied g (take (i + 1) us) commits applied) same
      (none_applied g all i d inside commits applied no_block) were

  pub one_of_list : (place : DataPlace) (sector : ℕ) → IsDataPlace g place → (block_of_data g place).0 ≡ (get_or all i d).at.0 → sector ≡ sector_number g place
      → AreApplied g (take (i + 1) updates) commits (raised applied sector (get_or all i d).point)
  one_of_list place sector within stands here =
      subst (λ (us : List Update). AreApplied g (take i us) commits applied → AreApplied g (take (i + 1) us) commits (raised applied sector (get_or all i d).point)) same
      (one_applied g all i d inside place within stands commits applied sector here) were

pub none_yet : (g : Geometry) (commits : List Point) → AreApplied g [] commits commits
none_yet g commits = record {
  size = refl;
  each = λ number below. record {
    reached = inl refl;
    most = λ point above is. absurd (none_in_nothing (made (block_of_data g is.0).0 point) is.3);
  };
}
