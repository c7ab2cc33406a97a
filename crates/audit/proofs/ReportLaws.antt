-- What the lists say of an image: its report.
use Rattle.std.proofs.Common.{ℕ, zero, suc, ◌≡◌, ◌+◌, ◌/◌, ◌%◌, ◌<◌, ◌≤◌, ◌↔◌, if◌then◌else◌, Bool, List, [], ◌∷◌, ◌++◌, length, Contains, Some, Ok, slice_index, refl, sym, ◌∙◌, ap, ap₂, subst, inl, inr, arith, length-append}
use Rattle.std.specs.List.{AllByRecursion}
use Rattle.std.proofs.lemmas.Bool.{cases_lt}
use Rattle.std.proofs.lemmas.Bool.Decides.{eqb_tells}
use Rattle.std.proofs.lemmas.Nat.{div-add-mod', div_below, mod_below, same_from_place}
use Rattle.std.proofs.lemmas.List.{append-nil}
use Rattle.std.proofs.lemmas.List.Elements.{Contains-append_left, Contains-append_right, Contains-append_cases}
use Rattle.blk_base.specs.Limits.{IsGeometry}
use Rattle.blk_base.specs.declared.geometry.Geometry.{Geometry}
use Rattle.blk_base.specs.declared.layout.DataPlace.{DataPlace}
use Rattle.blk_base.specs.declared.place.Pbn.{Pbn}
use Rattle.blk_base.specs.Regions.{data_blocks}
use Rattle.count_updates.proofs.NumberLaws.{before_is_earlier, block_inside, earlier_below}
use Rattle.count_updates.specs.Numbers.{block_number}
use Rattle.image_model.proofs.CountLaws.{is_first_or_behind, none_in_nothing, one_number, one_stored}
use Rattle.image_model.specs.Counts.{HasMappings, Stores, block_of_data, mapped_below}
use Rattle.image_model.specs.Maps.{Image, ArePagesGood, mapping_of, page_at}
use Rattle.image_model.specs.Pages.{address_count}
use Rattle.image_model.specs.Sound.{AreUnshared, IsDataPlace}
use Rattle.plain_laws.proofs.ListLaws.{every-append}
use Rattle.replay_map.specs.Replayed.{times}
use Rattle.replay_map.specs.declared.links.Link.{Link}
use Rattle.audit.specs.declared.forms.Difference.{Difference}
use Rattle.audit.specs.declared.forms.Report.{Report}
use Rattle.audit.specs.Reports.{AreRising, Differs, IsReport}
use Rattle.audit.proofs.TallyLaws.{one_place}
use Rattle.audit.specs.Tallies.{AreNumbers, difference_in, differences_below, place_of_number, row_of, used_in}

-- Rising lists.

rising_more : (xs : List Difference) (one : Difference) → AreRising xs → AllByRecursion (λ (x : Difference). x.at.0 < one.at.0) xs → AreRising (xs ++ (one ∷ []))
rising_more [] one rising below = (tt, tt)
rising_more (x ∷ xs) one rising below =
    (every-append (λ (other : Difference). x.at.0 < other.at.0) xs (one ∷ []) rising.0 (below.0, tt), rising_more xs one rising.1 below.1)

all_of : (P : Difference → Type 0) (xs : List Difference) → ((x : Difference) → Contains xs x → P x) → AllByRecursion P xs
all_of P [] each = tt
all_of P (x ∷ xs) each = (each x (0, omega arith, refl), all_of P xs (λ y (k, inside, is). each y (suc k, omega (arith, inside), is)))

-- At most one for each number.

pub few_below : (g : Geometry) (stored : List ℕ) (mapped : ℕ → ℕ) (n : ℕ) → length (differences_below g stored mapped n) ≤ n
few_below g stored mapped zero = omega arith
few_below g stored mapped (suc n) =
    let few = few_below g stored mapped n in
    let sum = length-append (differences_below g stored mapped n) (difference_in g stored mapped n) in
    elim (eqb_tells (slice_index stored n) (mapped n)) [
      | inl same ↦
          let none : length (difference_in g stored mapped n) ≡ 0 = rw same.0 refl in
          omega (arith, few, sum, none)
      | inr differs ↦
          let one : length (difference_in g stored mapped n) ≡ 1 = rw differs.0 refl in
          omega (arith, few, sum, one)
    ]

-- Where nothing differs, nothing is listed.

pub none_between : (g : Geometry) (stored : List ℕ) (mapped : ℕ → ℕ) (first count : ℕ) → ((k : ℕ) → k < count → slice_index stored (first + k) ≡ mapped (first + k))
    → differences_below g stored mapped (first + count) ≡ differences_below g stored mapped first
none_between g stored mapped first zero same = let none : first + zero ≡ first = omega arith in ap (differences_below g stored mapped) none
none_between g stored mapped first (suc count) same =
    let next : first + suc count ≡ suc (first + count) = omega arith in
    let here = same count (omega arith) in
    let none : difference_in g stored mapped (first + count) ≡ [] = elim (eqb_tells (slice_index stored (first + count)) (mapped (first + count))) [
      | inl equal ↦ rw equal.0 refl
      | inr differs ↦ absurd (differs.1 here)
    ] in
    ap (differences_below g stored mapped) next
    ∙ ap (λ (ds : List Difference). differences_below g stored mapped (first + count) ++ ds) none ∙ append-nil (differences_below g stored mapped (first + count))
    ∙ none_between g stored mapped first count (λ k below. same k (omega (arith, below)))

module _ (g : Geometry) (sizes : IsGeometry g) where
  -- Numbers and places.

  pub place_inside : (n : ℕ) → n < data_blocks g → IsDataPlace g (place_of_number g n)
  place_inside n below = let some = sizes.slab_blocks.0 in (div_below n g.slab_blocks g.slabs (omega (arith, some)) below, mod_below n g.slab_blocks (omega (arith, some)))

  pub number_again : (n : ℕ) → block_number g (place_of_number g n) ≡ n
  number_again n = div-add-mod' n g.slab_blocks

  place_again : (place : DataPlace) → IsDataPlace g place → place_of_number g (block_number g place) ≡ place
  place_again place inside =
      let some = sizes.slab_blocks.0 in
      let n = block_number g place in
      let parts = same_from_place (n / g.slab_blocks) (n % g.slab_blocks) place.slab place.offset g.slab_blocks (mod_below n g.slab_blocks (omega (arith, some))) inside.1 (number_again n) in
      ap₂ (λ (s o : ℕ). record { slab = s; offset = o }) parts.0 parts.1

  -- blocks rise with their numbers
  block_rises : (m n : ℕ) → m < n → n < data_blocks g → (block_of_data g (place_of_number g m)).0 < (block_of_data g (place_of_number g n)).0
  block_rises m n less below =
      let first = place_inside m (omega (arith, less, below)) in
      let second = place_inside n below in
      elim (cases_lt (block_of_data g (place_of_number g m)).0 (block_of_data g (place_of_number g n)).0) [
        | inl rises ↦ rises
        | inr falls ↦ elim (cases_lt (block_of_data g (place_of_number g n)).0 (block_of_data g (place_of_number g m)).0) [
          | inl before ↦
              let earlier = before_is_earlier g (place_of_number g n) (m / g.slab_blocks) (m % g.slab_blocks) second.1 first.1 before in
              let lower = earlier_below g (place_of_number g n) (m / g.slab_blocks) (m % g.slab_blocks) second.1 earlier in
              let here = number_again m in
              let there = number_again n in
              absurd (omega (arith, lower, here, there, less))
          | inr not_before ↦
              let same_block : (block_of_data g (place_of_number g m)).0 ≡ (block_of_data g (place_of_number g n)).0 = omega (arith, falls, not_before) in
              let one = one_place g (place_of_number g m) (place_of_number g n) first second (ap (λ (k : ℕ). record { 0 = k }) same_block) in
              let number = sym (number_again m) ∙ ap (block_number g) one ∙ number_again n in
              absurd (omega (arith, number, less))
        ]
      ]

  -- The list of differences.

  module _ (stored : List ℕ) (mapped : ℕ → ℕ) where
    in_row : (n : ℕ) (d : Difference) → Contains (difference_in g stored mapped n) d → (row_of g stored mapped n ≡ d) × (slice_index stored n ≡ mapped n → ⊥)
    in_row n d has = elim (eqb_tells (slice_index stored n) (mapped n)) [
      | inl same ↦ absurd (none_in_nothing d (subst (λ (b : Bool). Contains (if b then [] else row_of g stored mapped n ∷ []) d) same.0 has))
      | inr differs ↦ (
        elim (is_first_or_behind (row_of g stored mapped n) [] d (subst (λ (b : Bool). Contains (if b then [] else row_of g stored mapped n ∷ []) d) differs.0 has)) [
          | inl is ↦ is
          | inr behind ↦ absurd (none_in_nothing d behind)
        ],
        differs.1,
      )
    ]

    row_there : (n : ℕ) → (slice_index stored n ≡ mapped n → ⊥) → difference_in g stored mapped n ≡ row_of g stored mapped n ∷ []
    row_there n differs = elim (eqb_tells (slice_index stored n) (mapped n)) [
      | inl same ↦ absurd (differs same.1)
      | inr other ↦ rw (other.0) refl
    ]

    in_list : (n : ℕ) (d : Difference) → Contains (differences_below g stored mapped n) d
        → (m : ℕ) × (m < n) × (row_of g stored mapped m ≡ d) × (slice_index stored m ≡ mapped m → ⊥)
    in_list zero d has = absurd (none_in_nothing d has)
    in_list (suc n) d has = elim (Contains-append_cases (differences_below g stored mapped n) (difference_in g stored mapped n) d has) [
      | inl before ↦ let is = in_list n d before in let below = is.1 in (is.0, omega (arith, below), is.2, is.3)
      | inr here ↦ let is = in_row n d here in (n, omega arith, is.0, is.1)
    ]

    list_there : (n m : ℕ) → m < n → (slice_index stored m ≡ mapped m → ⊥) → Contains (differences_below g stored mapped n) (row_of g stored mapped m)
    list_there zero m below differs = absurd (omega (arith, below))
    list_there (suc n) m below differs = elim (cases_lt m n) [
      | inl less ↦ Contains-append_left (differences_below g stored mapped n) (difference_in g stored mapped n) (row_of g stored mapped m) (list_there n m less differs)
      | inr most ↦
          let same : m ≡ n = omega (arith, below, most) in
          Contains-append_right (differences_below g stored mapped n) (difference_in g stored mapped n) (row_of g stored mapped m)
          (subst (λ (k : ℕ). Contains (difference_in g stored mapped k) (row_of g stored mapped m)) same
          (subst (λ (ds : List Difference). Contains ds (row_of g stored mapped m)) (sym (row_there m differs)) (0, omega arith, refl)))
    ]

    all_rise : (n : ℕ) → n ≤ data_blocks g → AreRising (differences_below g stored mapped n)
    all_rise zero within = tt
    all_rise (suc n) within = elim (eqb_tells (slice_index stored n) (mapped n)) [
      | inl same ↦ rw (same.0, append-nil) (all_rise n (omega (arith, within)))
      | inr differs ↦ rw (differs.0)
          (rising_more (differences_below g stored mapped n) (row_of g stored mapped n) (all_rise n (omega (arith, within)))
          (all_of (λ (x : Difference). x.at.0 < (row_of g stored mapped n).at.0) (differences_below g stored mapped n)
          (λ x has.
          let is = in_list n x has in
          let less = block_rises is.0 n is.1 (omega (arith, within)) in
          let at = ap (λ (d : Difference). d.at.0) is.2 in
          omega (arith, less, at))))
    ]

-- In an image.

module _ (image : Image) (sizes : IsGeometry image.geometry) (links : List Link) (mapped : List Pbn) (stored : List ℕ) (tallies : ℕ → ℕ)
    (all_links : (link : Link) → Contains links link ↔ ((link.page.level + 1 < image.geometry.height) × (page_at image link.page ≡ Some link.at)))
    (all_mapped : (block : Pbn) → times block mapped ≡ mapped_below (mapping_of image) block (address_count image.geometry))
    (size : length stored ≡ data_blocks image.geometry)
    (counts : (place : DataPlace) → IsDataPlace image.geometry place → Stores image place (Ok (slice_index stored (block_number image.geometry place))))
    (tallied : AreNumbers image.geometry links mapped tallies) where
  abbrev g : Geometry
  g = image.geometry

  has_mappings : (place : DataPlace) → IsDataPlace g place → HasMappings image (block_of_data g place) (tallies (block_number g place))
  has_mappings place inside =
      let is = tallied place inside in
      record {
        pages = is.pages;
        one_page = elim is.one_page [
          | inl (one, (link, has, at)) ↦ let there = (all_links link).0 has in inl (one, (link.page, there.0, there.1 ∙ ap Some at))
          | inr (none, never) ↦ inr (none, λ (page, level, there). never (record { page = page; at = block_of_data g place }, (all_links (record { page = page; at = block_of_data g place })).1 (level, there), refl))
        ];
        sum = is.sum ∙ ap (λ (n : ℕ). n + is.pages) (all_mapped (block_of_data g place));
      }

  differs_there : (d : Difference) → Contains (differences_below g stored tallies (data_blocks g)) d → Differs image d
  differs_there d has =
      let is = in_list g sizes stored tallies (data_blocks g) d has in
      let place = place_of_number g is.0 in
      let inside = place_inside g sizes is.0 is.1 in
      let number = number_again g sizes is.0 in
      subst (Differs image) is.2
      (record {
        place = place;
        inside = inside;
        stands = refl;
        stores = subst (λ (n : ℕ). Stores image place (Ok (slice_index stored n))) number (counts place inside);
        maps = subst (λ (n : ℕ). HasMappings image (block_of_data g place) (tallies n)) number (has_mappings place inside);
        apart = is.3;
      })

  listed_there : (d : Difference) → Differs image d → Contains (differences_below g stored tallies (data_blocks g)) d
  listed_there d is =
      let place = is.place in
      let n = block_number g place in
      let below = block_inside g place is.inside in
      let one = one_stored image place (Ok d.stored) (Ok (slice_index stored n)) is.stores (counts place is.inside) in
      let stored_is : d.stored ≡ slice_index stored n = cc one in
      let mapped_is : d.mapped ≡ tallies n =
      one_number image (block_of_data g place) d.mapped (tallies n) (subst (λ (b : Pbn). HasMappings image b d.mapped) (sym is.stands) is.maps) (has_mappings place is.inside) in
      let at_is : block_of_data g (place_of_number g n) ≡ d.at = ap (block_of_data g) (place_again g sizes place is.inside) ∙ is.stands in
      let row : row_of g stored tallies n ≡ d =
      ap (λ (a : Pbn). record { at = a; stored = slice_index stored n; mapped = tallies n }) at_is
      ∙ ap₂ (λ (s m : ℕ). record { at = d.at; stored = s; mapped = m }) (sym stored_is) (sym mapped_is) in
      subst (Contains (differences_below g stored tallies (data_blocks g))) row
      (list_there g sizes stored tallies (data_blocks g) n below (λ same. is.apart (stored_is ∙ same ∙ sym mapped_is)))

  pub is_report : (report : Report) → ArePagesGood image → AreUnshared image → report.differs.items ≡ differences_below g stored tallies (data_blocks g)
      → report.used ≡ used_in stored → report.total ≡ data_blocks g → IsReport image report
  is_report report pages unshared list used all = record {
    right = record { pages = pages; stored = λ place inside. (slice_index stored (block_number g place), counts place inside); unshared = unshared };
    each = λ d. (
      λ has. differs_there d (subst (λ (ds : List Difference). Contains ds d) list has),
      λ is. subst (λ (ds : List Difference). Contains ds d) (sym list) (listed_there d is),
    );
    rising = subst AreRising (sym list) (all_rise g sizes stored tallies (data_blocks g) (omega arith));
    used = record { counts = stored; size = size; stored = counts; sum = used };
    all = all;
  }
