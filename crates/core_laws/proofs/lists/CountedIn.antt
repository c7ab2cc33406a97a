-- Which physical zone counts a block: by its test, by its number among the zones, and in lists of updates.
use Rattle.std.proofs.Common.{◌≡◌, ◌≢◌, ℕ, ◌+◌, ◌%◌, length, ◌<◌, ◌≤◌, Bool, true, false, Option, None, Some, List, [], ◌∷◌, ◌++◌, filter, refl, ap, sym, ◌∙◌, inl, inr, arith}
use Rattle.std.proofs.Math.Nat.{mod-lt}
use Rattle.std.proofs.lemmas.List.Elements.{filter-append}
use Rattle.blk_base.specs.declared.place.Mapping.TheVariants.{Unmapped, Zero, At}
use Rattle.core_laws.proofs.Common.{Item, Mapping, Pbn, PhysicalZone, Session, Sizes, Vio, cases_Bool, eq-eqb, eqb-true, eqb_tells, physical_number, total, zone_count, zone_number}
use Rattle.blk_base.specs.Regions.{IsDataBlock}
use Rattle.blk_base.specs.declared.place.ZoneId.TheVariants as id
use Rattle.data_vio.specs.Vios.{counts_for, counts_of}
use Rattle.core_model.specs.CountUpdates.{CountUpdate, is_counted_in, mapping_of, updates_in}
use Rattle.core_model.specs.PhysicalFacts.{IsSoundPhysical}
use Rattle.core_model.specs.Streams.{counted}
use Rattle.core_model.specs.Tokens.{leads_to}
use Rattle.core_model.specs.UpdateStream.{updating}
use Rattle.data_vio.specs.Zones.{counts_in, physical_zone_of}
use Rattle.zone_counts.specs.Zone.{IsOfZone, slab_number}

-- the zone of a block that a physical zone has is that zone
pub zone_is : (s : Session) (p : PhysicalZone) → IsSoundPhysical s p → (x : Pbn) → IsOfZone p.counts x → physical_zone_of s.sizes x ≡ p.counts.zone
zone_is s p sound x mine = rw (← sound.geometry, ← sound.zones) mine.own

pub of_zone : (s : Session) (p : PhysicalZone) → IsSoundPhysical s p → (x : Pbn) → IsDataBlock s.sizes.geometry x.0 → physical_zone_of s.sizes x ≡ p.counts.zone → IsOfZone p.counts x
of_zone s p sound x is_data here = record { data_block = rw sound.geometry is_data; own = rw (sound.geometry, sound.zones) here }

-- a block is counted by one of the zones
pub zone_inside : (sizes : Sizes) (x : Pbn) → 1 ≤ sizes.physical → physical_zone_of sizes x < sizes.physical
zone_inside sizes x some = mod-lt (slab_number sizes.geometry x) (omega (arith, some))

-- and so is the block of a request, or the one that it asks for a block
pub zone_of_vio : (sizes : Sizes) (v : Vio) → 1 ≤ sizes.physical → (zone : ℕ) × (zone < sizes.physical) × (counts_of sizes v ≡ id.Physical zone)
zone_of_vio sizes v some = by v.claim
  where
    turn : ℕ
    turn = length v.tickets + v.place

    by : (claim : Option Pbn) → (zone : ℕ) × (zone < sizes.physical) × (counts_for sizes turn claim ≡ id.Physical zone)
    by None = (turn % sizes.physical, mod-lt turn (omega (arith, some)), refl)
    by (Some x) = (physical_zone_of sizes x, zone_inside sizes x some, refl)

pub counts_within : (sizes : Sizes) (v : Vio) → 1 ≤ sizes.physical → zone_number sizes (counts_of sizes v) < zone_count sizes
counts_within sizes v some = let its = zone_of_vio sizes v some in let here = ap (zone_number sizes) its.2 in let below = its.1 in omega (arith, here, below)

pub block_within : (sizes : Sizes) (x : Pbn) → 1 ≤ sizes.physical → zone_number sizes (counts_in sizes x) < zone_count sizes
block_within sizes x some = let below = zone_inside sizes x some in omega (arith, below)

-- the test says of a block what its zone is
pub counted_here : (sizes : Sizes) (zone : ℕ) (x : Pbn) → physical_zone_of sizes x ≡ zone → is_counted_in sizes zone (At x) ≡ true
counted_here sizes zone x same = eq-eqb (physical_zone_of sizes x) zone same

pub counted_by : (sizes : Sizes) (zone : ℕ) (x : Pbn) → is_counted_in sizes zone (At x) ≡ true → physical_zone_of sizes x ≡ zone
counted_by sizes zone x is = eqb-true (physical_zone_of sizes x) zone is

-- the number of the zone that counts the block of a mapping
abbrev pub counting_number : Sizes → Mapping → ℕ
counting_number sizes (At x) = zone_number sizes (counts_in sizes x)
counting_number sizes other = zone_count sizes

-- what is counted in a zone leads to the number of the zone, and what leads elsewhere isn't counted there
pub number_counted : (sizes : Sizes) (zone : ℕ) (m : Mapping) → is_counted_in sizes zone m ≡ true → physical_number sizes zone ≡ counting_number sizes m
number_counted sizes zone (At x) is = ap (physical_number sizes) (sym (counted_by sizes zone x is))
number_counted sizes zone Unmapped is = absurd cc
number_counted sizes zone Zero is = absurd cc

pub not_counted : (sizes : Sizes) (zone : ℕ) (m : Mapping) → physical_number sizes zone ≢ counting_number sizes m → is_counted_in sizes zone m ≡ false
not_counted sizes zone m off = elim (cases_Bool (is_counted_in sizes zone m)) [ inl is ↦ absurd (off (number_counted sizes zone m is)) | inr other ↦ other ]

-- a mapping that is counted elsewhere doesn't lead to the block
pub leads_elsewhere : (sizes : Sizes) (m : Mapping) (y : Pbn) → zone_number sizes (counts_in sizes y) ≢ counting_number sizes m → leads_to y m ≡ 0
leads_elsewhere sizes (At x) y off = elim (eqb_tells x.0 y.0) [
  | inl same ↦ absurd (off (ap (λ (n : ℕ). zone_number sizes (counts_in sizes (record { 0 = n }))) (sym same.1)))
  | inr other ↦ rw other.0 refl
]
leads_elsewhere sizes Unmapped y off = refl
leads_elsewhere sizes Zero y off = refl

-- nor does one that isn't counted in its zone
pub leads_not : (sizes : Sizes) (zone : ℕ) (m : Mapping) (y : Pbn) → physical_zone_of sizes y ≡ zone → is_counted_in sizes zone m ≡ false → leads_to y m ≡ 0
leads_not sizes zone (At x) y home out = elim (eqb_tells x.0 y.0) [
  | inl same ↦
      let here : is_counted_in sizes zone (At x) ≡ true = counted_here sizes zone x (ap (λ (n : ℕ). physical_zone_of sizes (record { 0 = n })) same.1 ∙ home) in
      absurd cc
  | inr other ↦ rw other.0 refl
]
leads_not sizes zone Unmapped y home out = refl
leads_not sizes zone Zero y home out = refl

-- a sum is that of a part, where the others weigh nothing
pub total_part : {X : Type 0} (f : X → ℕ) (test : X → Bool) (xs : List X) → ((x : X) → test x ≡ false → f x ≡ 0) → total f (filter test xs) ≡ total f xs
total_part f test [] none = refl
total_part f test (x ∷ xs) none =
    let later = total_part f test xs none in
    elim (cases_Bool (test x)) [ inl is ↦ rw is (omega (arith, later)) | inr other ↦ rw other (omega (arith, later, none x other)) ]

-- the updates of a zone that items count for are a part of all
pub counted_part : (sizes : Sizes) (zone : ℕ) (items : List Item) → counted (λ it. updates_in sizes zone (updating it)) items ≡ updates_in sizes zone (counted updating items)
counted_part sizes zone [] = refl
counted_part sizes zone (it ∷ items) =
    ap (λ (us : List CountUpdate). updates_in sizes zone (updating it) ++ us) (counted_part sizes zone items)
    ∙ sym (filter-append (λ (u : CountUpdate). is_counted_in sizes zone (mapping_of u)) (updating it) (counted updating items))

pub updates_both : (sizes : Sizes) (zone : ℕ) (us vs : List CountUpdate) → updates_in sizes zone (us ++ vs) ≡ updates_in sizes zone us ++ updates_in sizes zone vs
updates_both sizes zone us vs = filter-append (λ (u : CountUpdate). is_counted_in sizes zone (mapping_of u)) us vs

-- updates of which none is counted in a zone
abbrev pub AreElsewhere : Sizes → ℕ → List CountUpdate → Type 0
AreElsewhere sizes zone [] = Unit {0}
AreElsewhere sizes zone (u ∷ us) = (is_counted_in sizes zone (mapping_of u) ≡ false) × AreElsewhere sizes zone us

pub none_in : (sizes : Sizes) (zone : ℕ) (us : List CountUpdate) → AreElsewhere sizes zone us → updates_in sizes zone us ≡ []
none_in sizes zone [] out = refl
none_in sizes zone (u ∷ us) out = rw out.0 (none_in sizes zone us out.1)
