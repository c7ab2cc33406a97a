-- Whether each data block is mapped as often as its stored count says, by a report.
use Rattle.std.proofs.Common.{ℕ, suc, ◌≡◌, ◌⊎◌, ◌+◌, ◌<◌, List, [], ◌∷◌, Contains, None, Some, slice_index, refl, sym, ◌∙◌, ap, subst, inl, inr, arith}
use Rattle.std.specs.List.{AllByRecursion, slice_get}
use Rattle.std.proofs.lemmas.Bool.Decides.{eqb_tells}
use Rattle.audit.specs.Reports.{AreRising, IsReport}
use Rattle.audit.specs.declared.forms.Difference.{Difference}
use Rattle.audit.specs.declared.forms.Report.{Report}
use Rattle.blk_base.specs.declared.layout.DataPlace.{DataPlace}
use Rattle.blk_base.specs.declared.place.Pbn.{Pbn}
use Rattle.count_updates.specs.Numbers.{block_number}
use Rattle.image_model.proofs.CountLaws.{is_first, is_first_or_behind, none_in_nothing}
use Rattle.image_model.specs.Counts.{HasMappings, block_of_data, mapped_below}
use Rattle.image_model.specs.Faults.{IsCountsFault}
use Rattle.image_model.specs.Maps.{Image, mapping_of}
use Rattle.image_model.specs.Pages.{address_count}
use Rattle.image_model.specs.Sound.{AreTrue, IsDataPlace, IsTrueOf}
use Rattle.replay_counts.specs.Recovered.{HasCounts}
use Rattle.replay_counts.specs.declared.forms.SectorPoints.{SectorPoints}
use Rattle.replay_map.specs.Replayed.{HasMap}
use Rattle.replay_map.specs.declared.links.Link.{Link}
use Rattle.replay_map.specs.declared.recovered.RecoveredMap.{RecoveredMap}

-- a link leads to the block, or none does
linked_or_not : (links : List Link) (block : Pbn) → ((link : Link) × Contains links link × (link.at ≡ block)) ⊎ ((link : Link) → Contains links link → link.at ≡ block → ⊥)
linked_or_not [] block = inr (λ link has at. absurd (none_in_nothing link has))
linked_or_not (link ∷ links) block = elim (eqb_tells link.at.0 block.0) [
  | inl same ↦ inl (link, is_first link links, ap (λ (n : ℕ). record { 0 = n }) same.1)
  | inr other ↦ elim (linked_or_not links block) [
    | inl (found, (k, inside, is), at) ↦ inl (found, (suc k, omega (arith, inside), is), at)
    | inr none ↦ inr (λ one has at. elim (is_first_or_behind link links one has) [
      | inl is ↦ other.1 (ap (λ (l : Link). l.at.0) is ∙ ap (λ (b : Pbn). b.0) at)
      | inr behind ↦ none one behind at
    ])
  ]
]

every_in : (P : Difference → Type 0) (xs : List Difference) (x : Difference) → AllByRecursion P xs → Contains xs x → P x
every_in P [] x each has = absurd (none_in_nothing x has)
every_in P (y ∷ ys) x each has = elim (is_first_or_behind y ys x has) [
  | inl is ↦ subst P is each.0
  | inr behind ↦ every_in P ys x each.1 behind
]

module _ (image : Image) (map : RecoveredMap) (counts : List ℕ) (sectors : List SectorPoints) (report : Report) (has_map : HasMap image map) (has_counts : HasCounts image counts sectors)
    (is : IsReport image report) where
  -- each block has a number of mappings
  mappings_of : (block : Pbn) → (count : ℕ) × HasMappings image block count
  mappings_of block = elim (linked_or_not map.links.items block) [
    | inl (link, has, at) ↦
        let there = (has_map.links link).0 has in
        (mapped_below (mapping_of image) block (address_count image.geometry) + 1, record { pages = 1; one_page = inl (refl, (link.page, there.0, there.1 ∙ ap Some at)); sum = refl })
    | inr none ↦ (
      mapped_below (mapping_of image) block (address_count image.geometry) + 0,
      record {
        pages = 0;
        one_page = inr (
          refl,
          λ (page, level, there).
              none (record { page = page; at = block }) ((has_map.links (record { page = page; at = block })).1 (level, there)) refl,
        );
        sum = refl;
      },
    )
  ]

  -- its stored count is that, or it is in the report
  true_or_listed : (place : DataPlace) → IsDataPlace image.geometry place
      → IsTrueOf image place ⊎ ((d : Difference) × Contains report.differs.items d × (d.at ≡ block_of_data image.geometry place))
  true_or_listed place inside =
      let stored = slice_index counts (block_number image.geometry place) in
      let mapped = mappings_of (block_of_data image.geometry place) in
      let stores = has_counts.stored place inside in
      elim (eqb_tells stored mapped.0) [
        | inl same ↦ inl (stored, stores, subst (HasMappings image (block_of_data image.geometry place)) (sym same.1) mapped.1)
        | inr apart ↦
            let d : Difference = record { at = block_of_data image.geometry place; stored = stored; mapped = mapped.0 } in
            inr (d, (is.each d).1 (record { place = place; inside = inside; stands = refl; stores = stores; maps = mapped.1; apart = apart.1 }), refl)
      ]

  pub none_differ : report.differs.items ≡ [] → AreTrue image
  none_differ none place inside = elim (true_or_listed place inside) [
    | inl true_there ↦ true_there
    | inr (d, has, at) ↦ absurd (none_in_nothing d (subst (λ (ds : List Difference). Contains ds d) none has))
  ]

  pub first_differs : (d : Difference) (later : List Difference) → report.differs.items ≡ d ∷ later → IsCountsFault image d.at d.stored d.mapped
  first_differs d later list =
      let rising = subst AreRising list is.rising in
      let here = (is.each d).0 (subst (λ (ds : List Difference). Contains ds d) (sym list) (is_first d later)) in
      record {
        place = here.place;
        inside = here.inside;
        stands = here.stands;
        stores = here.stores;
        maps = here.maps;
        differ = here.apart;
        first = λ other inside before. elim (true_or_listed other inside) [
          | inl true_there ↦ true_there
          | inr (one, has, at) ↦
              let block = ap (λ (b : Pbn). b.0) at in
              elim (is_first_or_behind d later one (subst (λ (ds : List Difference). Contains ds one) list has)) [
                | inl same ↦ let number = ap (λ (x : Difference). x.at.0) same in absurd (omega (arith, block, number, before))
                | inr behind ↦
                    let above = every_in (λ (x : Difference). d.at.0 < x.at.0) later one rising.0 behind in
                    absurd (omega (arith, block, above, before))
              ]
        ];
      }

-- the first of a list, or that there is none
pub no_first : (xs : List Difference) → None ≡ slice_get xs 0 → xs ≡ []
no_first [] is = refl
no_first (x ∷ xs) is = absurd (cc is)

pub is_its_first : (d : Difference) (xs : List Difference) → Some d ≡ slice_get xs 0 → (later : List Difference) × (xs ≡ d ∷ later)
is_its_first d [] is = absurd (cc is)
is_its_first d (x ∷ xs) is = let same : d ≡ x = cc is in (xs, ap (λ (y : Difference). y ∷ xs) (sym same))
