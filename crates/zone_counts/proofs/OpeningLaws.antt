-- The slabs of a zone, as an image is opened.
use Rattle.std.specs.Prelude.{ℕ, ◌≡◌, ◌+◌, ◌-◌, ◌*◌, ◌/◌, ◌%◌, ◌<◌, ◌≤◌, List, [], ◌∷◌, ◌++◌, length, position, not}
use Rattle.std.proofs.Common.{length-append}
use Rattle.slab_tickets.specs.Tickets.{is_served}
use Rattle.std.proofs.Common.{sym, ◌∙◌, ap, subst, arith, inl, inr}
use Rattle.std.proofs.lemmas.Bool.{cases_eq, cases_lt}
use Rattle.std.proofs.lemmas.List.{get_or_append_left}
use Rattle.std.proofs.Math.Seq.{get_or-append_seam}
use Rattle.blk_base.specs.Limits.{IsGeometry}
use Rattle.blk_base.specs.declared.geometry.Geometry.{Geometry}
use Rattle.blk_base.specs.declared.opened.Opened.{Opened}
use Rattle.blk_base.specs.declared.place.Pbn.{Pbn}
use Rattle.slab_counts.specs.Counts.{Counts, IsOpening}
use Rattle.slab_counts.specs.Kept.{IsWithin}
use Rattle.slab_tickets.specs.Tickets.{Desk, empty_desk}
use Rattle.zone_counts.specs.Zone.{IsZone, AreOpened, AreOpenedWith, AreSlabs, nowhere, slab_at, slabs_of_zone}

-- there are few zones
few : (P : ℕ → Type 0) (zones : ℕ) → 0 < zones → zones ≤ 4 → P 1 → P 2 → P 3 → P 4 → P zones
few P zones some most one two three four =
    elim (cases_eq zones 1) [
      | inl is ↦ subst P (sym is) one
      | inr not_one ↦ elim (cases_eq zones 2) [
        | inl is ↦ subst P (sym is) two
        | inr not_two ↦ elim (cases_eq zones 3) [
          | inl is ↦ subst P (sym is) three
          | inr not_three ↦ subst P (let is : 4 ≡ zones = omega (arith, some, most, not_one, not_two, not_three) in is) four
        ]
      ]
    ]

pub slab_inside : (slabs zone zones k : ℕ) → zones ≤ 4 → zone < zones → k < (slabs + zones - 1 - zone) / zones → k * zones + zone < slabs
slab_inside slabs zone zones k most =
    λ below. few (λ n. zone < n → k < (slabs + n - 1 - zone) / n → k * n + zone < slabs) zones (omega (arith, below)) most (λ b i. omega arith) (λ b i. omega arith) (λ b i. omega arith) (λ b i. omega arith) below

pub slab_counted : (slabs zone zones n : ℕ) → zones ≤ 4 → zone < zones → n < slabs → n % zones ≡ zone → n / zones < (slabs + zones - 1 - zone) / zones
slab_counted slabs zone zones n most below =
    few (λ m. zone < m → n < slabs → n % m ≡ zone → n / m < (slabs + m - 1 - zone) / m) zones (omega (arith, below)) most
    (λ b i o. omega arith) (λ b i o. omega arith) (λ b i o. omega arith) (λ b i o. omega arith) below

-- one more slab was opened
pub opened_more : (g : Geometry) (counters : List ℕ) (pages : List Pbn) (zone zones count : ℕ) (slabs : List Counts) (c : Counts) → AreOpenedWith g counters pages zone zones count slabs
    → IsOpening g (count * zones + zone) counters pages c → IsWithin c → AreOpenedWith g counters pages zone zones (count + 1) (slabs ++ c ∷ [])
opened_more g counters pages zone zones count slabs c are is within = record {
  length_is = omega (arith, are.length_is, length-append {A = Counts} slabs (c ∷ []));
  each = λ k below. elim (cases_lt k count) [
    | inl early ↦
        let same : slab_at (slabs ++ c ∷ []) k ≡ slab_at slabs k = get_or_append_left slabs (c ∷ []) nowhere k (omega (arith, early, are.length_is)) in
        let old = are.each k early in
        (subst (λ (x : Counts). IsOpening g (k * zones + zone) counters pages x) (sym same) old.0, subst (λ (x : Counts). IsWithin x) (sym same) old.1)
    | inr past ↦
        let last : k ≡ count = omega (arith, below, past) in
        let place : count ≡ length slabs = sym are.length_is in
        let same : slab_at (slabs ++ c ∷ []) k ≡ c = ap (λ (n : ℕ). slab_at (slabs ++ c ∷ []) n) (last ∙ place) ∙ get_or-append_seam slabs c [] nowhere in (
          subst (λ (x : Counts). IsOpening g (k * zones + zone) counters pages x) (sym same) (subst (λ (n : ℕ). IsOpening g (n * zones + zone) counters pages c) (sym last) is),
          subst (λ (x : Counts). IsWithin x) (sym same) within,
        )
  ];
}

pub opened_none : (g : Geometry) (counters : List ℕ) (pages : List Pbn) (zone zones : ℕ) (slabs : List Counts) → slabs ≡ [] → AreOpenedWith g counters pages zone zones 0 slabs
opened_none g counters pages zone zones slabs none = record { length_is = ap (λ (xs : List Counts). length xs) none; each = λ k below. absurd (omega (arith, below)) }

-- they are the slabs of the zone
pub slabs_opened : (g : Geometry) (counters : List ℕ) (pages : List Pbn) (zone zones : ℕ) (slabs : List Counts) → IsGeometry g → zones ≤ 4 → zone < zones
    → AreOpenedWith g counters pages zone zones (slabs_of_zone g zone zones) slabs → AreSlabs g zone zones slabs
slabs_opened g counters pages zone zones slabs sizes most below are = record {
  sizes = sizes;
  number = below;
  all = λ n inside own. omega (arith, slab_counted g.slabs zone zones n most below inside own, are.length_is);
  each = λ k inside. let one = are.each k (omega (arith, inside, are.length_is)) in (one.0.slab, one.0.geometry, one.1);
}

pub opened_zone : (o : Opened) (zone zones room : ℕ) (slabs : List Counts) (desk : Desk) → IsGeometry o.head.geometry → zones ≤ 4 → zone < zones
    → AreOpened o zone zones (slabs_of_zone o.head.geometry zone zones) slabs → desk ≡ empty_desk zone room
    → IsZone (record { geometry = o.head.geometry; zone = zone; zones = zones; slabs = slabs; desk = desk })
opened_zone o zone zones room slabs desk sizes most below are is = record {
  slabs = slabs_opened o.head.geometry o.counters.items o.tree_pages.items zone zones slabs sizes most below are;
  desk = ap (λ (d : Desk). d.zone) is;
  settled = inl (ap (λ (d : Desk). position (λ w. not (is_served w)) d.out) is);
}
