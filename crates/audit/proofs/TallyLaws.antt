-- How the numbers of blocks are changed, one after another.
use Rattle.std.proofs.Common.{ℕ, ◌≡◌, ◌⊎◌, ◌+◌, ◌<◌, ◌≤◌, ◌==◌, nat_lt, true, false, cond, Option, Some, List, [], ◌∷◌, ◌++◌, length, get_or, take, replicate, Contains, slice_index, slice_set, refl, sym, ◌∙◌, ap, ap₂, subst, inl, inr, arith, ◌-◌, length-append}
use Rattle.std.specs.BTreeMap.{BTreeMap, get, is_at}
use Rattle.std.specs.Map.{lookup}
use Rattle.std.specs.Ordering.{nat_cmp}
use Rattle.std.specs.Prelude.{unwrap_or}
use Rattle.std.proofs.lemmas.Bool.{cond-false, cond-true, eq-eqb, lt-ltb, le-ltb, ne_eqb}
use Rattle.std.proofs.lemmas.Bool.Decides.{eqb_tells}
use Rattle.std.proofs.lemmas.Nat.{same_from_place}
use Rattle.std.proofs.Math.ListN.{get_or-append}
use Rattle.std.proofs.Math.Seq.{get_or-append_right}
use Rattle.std.proofs.lemmas.List.{get_or-set_same, get_or-set_other, get_or-replicate, take_more}
use Rattle.std.proofs.lemmas.List.Elements.{Contains-append_left, Contains-append_right, Contains-append_cases}
use Rattle.blk_base.specs.Regions.{DataBlock, IsDataBlock, data_blocks}
use Rattle.blk_base.proofs.RegionLaws.{apart}
use Rattle.blk_base.specs.declared.geometry.Geometry.{Geometry}
use Rattle.blk_base.specs.declared.layout.DataPlace.{DataPlace}
use Rattle.blk_base.specs.declared.place.Pbn.{Pbn}
use Rattle.count_updates.proofs.NumberLaws.{block_inside}
use Rattle.count_updates.specs.Numbers.{block_number}
use Rattle.image_model.proofs.CountLaws.{is_first_or_behind, none_in_nothing}
use Rattle.image_model.specs.Counts.{block_of_data}
use Rattle.image_model.specs.Sound.{IsDataPlace}
use Rattle.plain_laws.proofs.ListLaws.{total-append}
use Rattle.plain_laws.specs.Sums.{bit, total}
use Rattle.replay_map.specs.Replayed.{times}
use Rattle.replay_map.specs.declared.links.Link.{Link}
use Rattle.replay_map.proofs.ChangeLaws.{tie}
use Rattle.audit.specs.Tallies.{AreNumbers, AreTallied, IsChanged, IsSplit, more_of, number_in, used_in}
use Rattle.audit.specs.declared.tallies.MappingCounts.{MappingCounts}

-- A data block has one number.

pub one_place : (g : Geometry) (place other : DataPlace) → IsDataPlace g place → IsDataPlace g other → block_of_data g place ≡ block_of_data g other → place ≡ other
one_place g place other inside inside' same =
    let one = apart g (DataBlock place.slab place.offset) (DataBlock other.slab other.offset) inside inside' (ap (λ (b : Pbn). b.0) same) in
    let slab : place.slab ≡ other.slab = cc one in
    let offset : place.offset ≡ other.offset = cc one in
    ap₂ (λ (s o : ℕ). record { slab = s; offset = o }) slab offset

one_number : (g : Geometry) (place other : DataPlace) → IsDataPlace g place → IsDataPlace g other → block_number g place ≡ block_number g other → place ≡ other
one_number g place other inside inside' same =
    let parts = same_from_place place.slab place.offset other.slab other.offset g.slab_blocks inside.1 inside'.1 same in
    ap₂ (λ (s o : ℕ). record { slab = s; offset = o }) parts.0 parts.1

pub changed_at : (g : Geometry) (at : Pbn) (change : ℕ → ℕ) (old new : ℕ → ℕ) (place : DataPlace) (n : ℕ) → IsDataPlace g place → block_of_data g place ≡ at
    → n ≡ block_number g place → new n ≡ change (old n) → ((k : ℕ) → (k ≡ n → ⊥) → new k ≡ old k) → IsChanged g at change old new
changed_at g at change old new place n inside stands number is rest = record {
  here = λ other inside' same.
      let one = one_place g other place inside' inside (same ∙ sym stands) in
      let number_is : block_number g other ≡ n = ap (block_number g) one ∙ sym number in
      ap new number_is ∙ is ∙ ap (λ (k : ℕ). change (old k)) (sym number_is);
  others = λ other inside' differs.
      rest (block_number g other) (λ same. differs (ap (block_of_data g) (one_number g other place inside' inside (same ∙ number)) ∙ stands));
}

-- in a list
pub changed_by : (g : Geometry) (at : Pbn) (change : ℕ → ℕ) (old : List ℕ) (place : DataPlace) (n v : ℕ) → length old ≡ data_blocks g → IsDataPlace g place → block_of_data g place ≡ at
    → n ≡ block_number g place → v ≡ change (slice_index old n) → IsChanged g at change (slice_index old) (slice_index (slice_set old n v))
changed_by g at change old place n v size inside stands number is =
    let below = block_inside g place inside in
    changed_at g at change (slice_index old) (slice_index (slice_set old n v)) place n inside stands number
    (get_or-set_same old n v 0 (omega (arith, below, number, size)) ∙ is) (λ k differs. get_or-set_other old n k v 0 differs)

pub changed_nothing : (g : Geometry) (at : Pbn) (change : ℕ → ℕ) (old : ℕ → ℕ) → (IsDataBlock g at.0 → ⊥) → IsChanged g at change old old
changed_nothing g at change old none = record {
  here = λ place inside stands. absurd (none (record { slab = place.slab; offset = place.offset; inside = inside; stands = ap (λ (b : Pbn). b.0) stands }));
  others = λ place inside differs. refl;
}

-- Pages.

pub none_tallied : (g : Geometry) (counts : List ℕ) → counts ≡ replicate (data_blocks g) 0 → AreNumbers g [] [] (slice_index counts)
none_tallied g counts zeros = λ place inside. record {
  pages = 0;
  one_page = inr (refl, λ linked. none_in_nothing linked.0 linked.1);
  sum = ap (λ (ns : List ℕ). slice_index ns (block_number g place)) zeros ∙ get_or-replicate (data_blocks g) (block_number g place) 0 0 (block_inside g place inside);
}

-- the same numbers, told otherwise
pub tallied_as : (g : Geometry) (links : List Link) (mapped : List Pbn) (counts others : ℕ → ℕ) → ((n : ℕ) → others n ≡ counts n) → AreNumbers g links mapped counts → AreNumbers g links mapped others
tallied_as g links mapped counts others same are = λ place inside.
    let is = are place inside in record { pages = is.pages; one_page = is.one_page; sum = same (block_number g place) ∙ is.sum }

same_block : (one other : Pbn) → (one ≡ other) ⊎ (one ≡ other → ⊥)
same_block one other = elim (eqb_tells one.0 other.0) [
  | inl same ↦ inl (ap (λ (n : ℕ). record { 0 = n }) same.1)
  | inr differs ↦ inr (λ same. differs.1 (ap (λ (b : Pbn). b.0) same))
]

pub page_tallied : (g : Geometry) (links : List Link) (i : ℕ) (d : Link) (old new : ℕ → ℕ) → i < length links → AreNumbers g (take i links) [] old
    → IsChanged g (get_or links i d).at (λ n. 1) old new → AreNumbers g (take (i + 1) links) [] new
page_tallied g links i d old new inside were changed =
    let link = get_or links i d in
    let more : take (i + 1) links ≡ take i links ++ (link ∷ []) = take_more links i d inside in
    λ place there. elim (same_block (block_of_data g place) link.at) [
      | inl same ↦ record {
        pages = 1;
        one_page = inl (refl, (link, subst (λ (ls : List Link). Contains ls link) (sym more) (Contains-append_right (take i links) (link ∷ []) link (0, omega arith, refl)), sym same));
        sum = changed.here place there same;
      }
      | inr differs ↦
          let was = were place there in record {
            pages = was.pages;
            one_page = elim was.one_page [
              | inl (one, (other, has, at)) ↦ inl (one, (other, subst (λ (ls : List Link). Contains ls other) (sym more) (Contains-append_left (take i links) (link ∷ []) other has), at))
              | inr (none, never) ↦ inr (
                none,
                λ (other, has, at). elim (Contains-append_cases (take i links) (link ∷ []) other (subst (λ (ls : List Link). Contains ls other) more has)) [
                  | inl before ↦ never (other, before, at)
                  | inr last ↦ elim (is_first_or_behind link [] other last) [
                    | inl is ↦ differs (sym at ∙ ap (λ (l : Link). l.at) (sym is))
                    | inr behind ↦ none_in_nothing other behind
                  ]
                ],
              )
            ];
            sum = changed.others place there differs ∙ was.sum;
          }
    ]

-- Mapped blocks.

times_more : (block : Pbn) (mapped : List Pbn) (i : ℕ) (d : Pbn) → i < length mapped → times block (take (i + 1) mapped) ≡ times block (take i mapped) + bit ((get_or mapped i d).0 == block.0)
times_more block mapped i d inside =
    ap (times block) (take_more mapped i d inside) ∙ total-append (λ (other : Pbn). bit (other.0 == block.0)) (take i mapped) (get_or mapped i d ∷ [])
    ∙ (let one : total (λ (other : Pbn). bit (other.0 == block.0)) (get_or mapped i d ∷ []) ≡ bit ((get_or mapped i d).0 == block.0) = omega arith in omega (arith, one))

pub mapped_tallied : (g : Geometry) (links : List Link) (mapped : List Pbn) (i : ℕ) (d : Pbn) (old new : ℕ → ℕ) → i < length mapped → AreNumbers g links (take i mapped) old
    → IsChanged g (get_or mapped i d) (λ n. n + 1) old new → AreNumbers g links (take (i + 1) mapped) new
mapped_tallied g links mapped i d old new inside were changed = λ place there.
    let block = block_of_data g place in
    let was = were place there in
    let sum = was.sum in
    let more = times_more block mapped i d inside in
    record {
      pages = was.pages;
      one_page = was.one_page;
      sum = elim (eqb_tells (get_or mapped i d).0 block.0) [
        | inl same ↦
            let here = changed.here place there (ap (λ (n : ℕ). record { 0 = n }) (sym same.1)) in
            let one : bit ((get_or mapped i d).0 == block.0) ≡ 1 = ap bit same.0 in
            omega (arith, here, sum, more, one)
        | inr differs ↦
            let here = changed.others place there (λ is. differs.1 (sym (ap (λ (b : Pbn). b.0) is))) in
            let none : bit ((get_or mapped i d).0 == block.0) ≡ 0 = ap bit differs.0 in
            omega (arith, here, sum, more, none)
      ];
    }

times_few : (block : Pbn) (mapped : List Pbn) → times block mapped ≤ length mapped
times_few block [] = omega arith
times_few block (other ∷ mapped) = let rest = times_few block mapped in elim (eqb_tells other.0 block.0) [
  | inl same ↦ let one : bit (other.0 == block.0) ≡ 1 = ap bit same.0 in omega (arith, rest, one)
  | inr differs ↦ let none : bit (other.0 == block.0) ≡ 0 = ap bit differs.0 in omega (arith, rest, none)
]

pub few_counted : (g : Geometry) (links : List Link) (mapped : List Pbn) (counts : ℕ → ℕ) (place : DataPlace) → IsDataPlace g place → AreNumbers g links mapped counts
    → counts (block_number g place) ≤ length mapped + 1
few_counted g links mapped counts place inside are =
    let is = are place inside in
    let sum = is.sum in
    let few = times_few (block_of_data g place) mapped in
    elim is.one_page [
      | inl one ↦ let pages = one.0 in omega (arith, sum, few, pages)
      | inr none ↦ let pages = none.0 in omega (arith, sum, few, pages)
    ]

-- What a byte holds, and what it doesn't.

alike : (n : ℕ) → is_at (nat_cmp n) n ≡ true
alike n = tie n n ∙ eq-eqb n n refl

not_alike : (n k : ℕ) → (n ≡ k → ⊥) → is_at (nat_cmp n) k ≡ false
not_alike n k differs = tie n k ∙ ne_eqb n k differs

nothing_in : (more : BTreeMap ℕ ℕ) → more.entries ≡ [] → (n : ℕ) → more_of more n ≡ 0
nothing_in more none n = ap (λ (entries : List (ℕ × ℕ)). unwrap_or (lookup (is_at (nat_cmp n)) entries) 0) none

pub all_low : (tally : MappingCounts) → tally.more.entries ≡ [] → (n : ℕ) → number_in tally n ≡ slice_index tally.low.items n
all_low tally none n = let nothing = nothing_in tally.more none n in omega (arith, nothing)

-- pages alone
pub marked_tallied : (g : Geometry) (links : List Link) (marked : List ℕ) (tally : MappingCounts) → tally.more.entries ≡ [] → tally.low.items ≡ marked
    → AreNumbers g links [] (slice_index marked) → AreNumbers g links [] (number_in tally)
marked_tallied g links marked tally none same are =
    tallied_as g links [] (slice_index marked) (number_in tally) (λ n. all_low tally none n ∙ ap (λ (xs : List ℕ). slice_index xs n) same) are

pub split_at_first : (tally : MappingCounts) → tally.more.entries ≡ [] → IsSplit tally
split_at_first tally none n low = nothing_in tally.more none n

module _ (old new : MappingCounts) (n : ℕ) (inside : n < length old.low.items) where
  -- one more in its byte
  module _ (same : new.more ≡ old.more) (is : new.low.items ≡ slice_set old.low.items n (slice_index old.low.items n + 1)) where
    byte_here : slice_index new.low.items n ≡ slice_index old.low.items n + 1
    byte_here = ap (λ (xs : List ℕ). slice_index xs n) is ∙ get_or-set_same old.low.items n (slice_index old.low.items n + 1) 0 inside

    byte_there : (k : ℕ) → (k ≡ n → ⊥) → slice_index new.low.items k ≡ slice_index old.low.items k
    byte_there k differs = ap (λ (xs : List ℕ). slice_index xs k) is ∙ get_or-set_other old.low.items n k (slice_index old.low.items n + 1) 0 differs

    pub low_here : number_in new n ≡ number_in old n + 1
    low_here = let byte = byte_here in let more = ap (λ (m : BTreeMap ℕ ℕ). more_of m n) same in omega (arith, byte, more)

    pub low_others : (k : ℕ) → (k ≡ n → ⊥) → number_in new k ≡ number_in old k
    low_others k differs = let byte = byte_there k differs in let more = ap (λ (m : BTreeMap ℕ ℕ). more_of m k) same in omega (arith, byte, more)

    pub low_split : slice_index old.low.items n < 255 → IsSplit old → IsSplit new
    low_split low split k less = ap (λ (m : BTreeMap ℕ ℕ). more_of m k) same ∙ elim (eqb_tells k n) [
      | inl at ↦ split k (let here = ap (slice_index old.low.items) at.1 in omega (arith, here, low))
      | inr differs ↦ split k (let byte = byte_there k differs.1 in omega (arith, byte, less))
    ]

  -- one more in the map
  module _ (same : new.low.items ≡ old.low.items) (is : (q : ℕ) → get nat_cmp new.more q ≡ cond (is_at (nat_cmp n) q) (Some (more_of old.more n + 1)) (get nat_cmp old.more q)) where
    more_there : (k : ℕ) → (k ≡ n → ⊥) → more_of new.more k ≡ more_of old.more k
    more_there k differs = ap (λ (o : Option ℕ). unwrap_or o 0) (is k ∙ cond-false (is_at (nat_cmp n) k) (Some (more_of old.more n + 1)) (get nat_cmp old.more k) (not_alike n k (λ at. differs (sym at))))

    pub more_here : number_in new n ≡ number_in old n + 1
    more_here =
        let more : more_of new.more n ≡ more_of old.more n + 1 =
        ap (λ (o : Option ℕ). unwrap_or o 0) (is n ∙ cond-true (is_at (nat_cmp n) n) (Some (more_of old.more n + 1)) (get nat_cmp old.more n) (alike n)) in
        let byte = ap (λ (xs : List ℕ). slice_index xs n) same in
        omega (arith, more, byte)

    pub more_others : (k : ℕ) → (k ≡ n → ⊥) → number_in new k ≡ number_in old k
    more_others k differs = let more = more_there k differs in let byte = ap (λ (xs : List ℕ). slice_index xs k) same in omega (arith, more, byte)

    pub more_split : 255 ≤ slice_index old.low.items n → IsSplit old → IsSplit new
    more_split full split k less = let byte = ap (λ (xs : List ℕ). slice_index xs k) same in elim (eqb_tells k n) [
      | inl at ↦ absurd (let here = ap (slice_index old.low.items) at.1 in omega (arith, here, byte, less, full))
      | inr differs ↦ more_there k differs.1 ∙ split k (omega (arith, byte, less))
    ]

-- The numbers as a list, one after another.

pub listed_more : (counts : ℕ → ℕ) (n : ℕ) (old new : List ℕ) (count : ℕ) → length old ≡ n → ((k : ℕ) → k < n → slice_index old k ≡ counts k) → count ≡ counts n
    → new ≡ old ++ count ∷ [] → (length new ≡ n + 1) × ((k : ℕ) → k < n + 1 → slice_index new k ≡ counts k)
listed_more counts n old new count size each is more = (
  let grown = ap length more in let sum = length-append old (count ∷ []) in omega (arith, grown, sum, size),
  λ k below. elim (eqb_tells k n) [
    | inl same ↦
        ap (λ (xs : List ℕ). slice_index xs k) more ∙ get_or-append_right old (count ∷ []) k 0 (let at = same.1 in omega (arith, at, size))
        ∙ ap (λ (i : ℕ). slice_index (count ∷ []) i) (let at = same.1 in let none : k - length old ≡ 0 = omega (arith, at, size) in none)
        ∙ is ∙ ap counts (sym same.1)
    | inr differs ↦
        let low : k < n = let apart = differs.1 in omega (arith, below, apart) in
        ap (λ (xs : List ℕ). slice_index xs k) more ∙ get_or-append old (count ∷ []) 0 k (omega (arith, low, size)) ∙ each k low
  ],
)

pub tallied_list : (g : Geometry) (links : List Link) (mapped : List Pbn) (counts : ℕ → ℕ) (n : ℕ) (list : List ℕ) → n ≡ data_blocks g → length list ≡ n
    → ((k : ℕ) → k < n → slice_index list k ≡ counts k) → AreNumbers g links mapped counts → AreTallied g links mapped list
tallied_list g links mapped counts n list all size same are = record {
  size = size ∙ all;
  each = λ place inside.
      let is = are place inside in
      let below = block_inside g place inside in
      record { pages = is.pages; one_page = is.one_page; sum = same (block_number g place) (omega (arith, below, all)) ∙ is.sum };
}

-- How many numbers are above 0.

pub used_more : (counts : List ℕ) (i d : ℕ) → i < length counts → used_in (take (i + 1) counts) ≡ used_in (take i counts) + bit (nat_lt 0 (get_or counts i d))
used_more counts i d inside =
    ap used_in (take_more counts i d inside) ∙ total-append (λ (count : ℕ). bit (nat_lt 0 count)) (take i counts) (get_or counts i d ∷ [])
    ∙ (let one : total (λ (count : ℕ). bit (nat_lt 0 count)) (get_or counts i d ∷ []) ≡ bit (nat_lt 0 (get_or counts i d)) = omega arith in omega (arith, one))

pub one_used : (counts : List ℕ) (i d used next : ℕ) → i < length counts → (used ≡ used_in (take i counts)) × (used ≤ i) → 0 < get_or counts i d → next ≡ used + 1
    → (next ≡ used_in (take (i + 1) counts)) × (next ≤ i + 1)
one_used counts i d used next inside were above is =
    let more = used_more counts i d inside in
    let one : bit (nat_lt 0 (get_or counts i d)) ≡ 1 = ap bit (lt-ltb 0 (get_or counts i d) above) in
    let was = were.0 in let few = were.1 in
    (omega (arith, more, one, was, is), omega (arith, few, is))

pub one_unused : (counts : List ℕ) (i d used next : ℕ) → i < length counts → (used ≡ used_in (take i counts)) × (used ≤ i) → get_or counts i d ≤ 0 → next ≡ used
    → (next ≡ used_in (take (i + 1) counts)) × (next ≤ i + 1)
one_unused counts i d used next inside were none is =
    let more = used_more counts i d inside in
    let zero_is : bit (nat_lt 0 (get_or counts i d)) ≡ 0 = ap bit (le-ltb 0 (get_or counts i d) none) in
    let was = were.0 in let few = were.1 in
    (omega (arith, more, zero_is, was, is), omega (arith, few, is))
