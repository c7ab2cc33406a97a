-- An opened zone has the counters of the image, and no claims.
use Rattle.std.specs.Prelude.{ℕ, ◌≡◌, ◌+◌, ◌-◌, ◌*◌, ◌/◌, ◌<◌, Bool, true, false, not, ◌&&◌, cond, nat_lt, List, take, drop, slice_index, None}
use Rattle.std.proofs.Common.{refl, ap, sym, ◌∙◌, subst, arith, inl, inr}
use Rattle.std.proofs.lemmas.Bool.{cases_lt, lt-ltb, le-ltb}
use Rattle.std.proofs.lemmas.List.{get_or-take, get_or-drop}
use Rattle.std.proofs.lemmas.Nat.{div-add-mod'}
use Rattle.plain_laws.proofs.ListLaws.{zero_at}
use Rattle.blk_base.specs.Regions.{IsDataBlock, slab_start_of}
use Rattle.blk_base.specs.declared.geometry.Geometry.{Geometry}
use Rattle.blk_base.specs.declared.opened.Opened.{Opened}
use Rattle.blk_base.specs.declared.place.Pbn.{Pbn}
use Rattle.slab_counts.specs.Counts.{Counts, IsOpening, counter_of, claims_of}
use Rattle.slab_tickets.specs.Numbers.{ticket_of}
use Rattle.slab_tickets.specs.Tickets.{Desk}
use Rattle.zone_counts.specs.ByBlock.{counter_in, claims_in, out_with}
use Rattle.zone_counts.specs.Openings.{is_data_block, offset_in, opened_count}
use Rattle.zone_counts.specs.Zone.{Zone, IsOfZone, IsOpeningZone, IsZone, slab_at, slab_number}
use Rattle.zone_counts.proofs.BlockLaws.{home_is}
use Rattle.zone_counts.proofs.OperationLaws.{inside}
use Rattle.zone_counts.proofs.PlaceLaws.{number_is}

-- a number is that of a data block, or it isn't
pub data Is (g : Geometry) (x : Pbn) : Type 0 where
  is_data : is_data_block g x ≡ true → IsDataBlock g x.0 → Is g x
  is_none : is_data_block g x ≡ false → (IsDataBlock g x.0 → ⊥) → Is g x

pub tells_data : (g : Geometry) (x : Pbn) → Is g x
tells_data g x = elim (cases_lt (slab_number g x) g.slabs) [
  | inr past ↦
      is_none (ap (λ (b : Bool). b && (not (nat_lt x.0 (slab_start_of g (slab_number g x))) && nat_lt (offset_in g x) g.slab_blocks)) (le-ltb _ _ past))
      (λ d. omega (arith, number_is g d.slab d.offset x d.inside.1 d.stands, d.inside.0, past))
  | inl below ↦ elim (cases_lt x.0 (slab_start_of g (slab_number g x))) [
    | inl before ↦
        is_none (rw (lt-ltb _ _ below, lt-ltb _ _ before) refl)
        (λ d. let is = number_is g d.slab d.offset x d.inside.1 d.stands in omega (arith, ap (slab_start_of g) is, d.stands, before))
    | inr behind ↦ elim (cases_lt (offset_in g x) g.slab_blocks) [
      | inl in_it ↦
          is_data (rw (lt-ltb _ _ below, le-ltb _ _ behind, lt-ltb _ _ in_it) refl)
          (record { slab = slab_number g x; offset = offset_in g x; inside = (below, in_it); stands = omega (arith, behind) })
      | inr out ↦
          is_none (rw (lt-ltb _ _ below, le-ltb _ _ behind, le-ltb _ _ out) refl)
          (λ d. let is = number_is g d.slab d.offset x d.inside.1 d.stands in omega (arith, ap (slab_start_of g) is, d.stands, d.inside.1, out))
    ]
  ]
]

pub opened_none : (g : Geometry) (counters : List ℕ) (x : Pbn) → (IsDataBlock g x.0 → ⊥) → opened_count g counters x ≡ 0
opened_none g counters x outside = elim (tells_data g x) [
  | is_data yes_it d ↦ absurd (outside d)
  | is_none not_it out ↦ ap (λ (b : Bool). cond b (slice_index counters (slab_number g x * g.slab_blocks + offset_in g x)) 0) not_it
]

pub opened_some : (g : Geometry) (counters : List ℕ) (x : Pbn) (d : IsDataBlock g x.0) → opened_count g counters x ≡ slice_index counters (d.slab * g.slab_blocks + d.offset)
opened_some g counters x d = elim (tells_data g x) [
  | is_none not_it out ↦ absurd (out d)
  | is_data yes_it e ↦
      let slab = number_is g d.slab d.offset x d.inside.1 d.stands in
      let place : slab_number g x * g.slab_blocks + offset_in g x ≡ d.slab * g.slab_blocks + d.offset
      = omega (arith, ap (λ (n : ℕ). n * g.slab_blocks) slab, ap (slab_start_of g) slab, d.stands) in
      ap (λ (b : Bool). cond b (slice_index counters (slab_number g x * g.slab_blocks + offset_in g x)) 0) yes_it ∙ ap (λ (k : ℕ). slice_index counters k) place
]

-- what an opened slab says of a block
module _ (o : Opened) (x : Pbn) (n : ℕ) (c : Counts) (is : IsOpening o.head.geometry n o.counters.items o.tree_pages.items c) where
  abbrev g : Geometry
  g = o.head.geometry

  said_counter : (d : IsDataBlock g x.0) → d.slab ≡ n → counter_of c x ≡ slice_index o.counters.items (d.slab * g.slab_blocks + d.offset)
  said_counter d same =
      let place : x.0 - slab_start_of g n ≡ d.offset = omega (arith, d.stands, ap (slab_start_of g) same) in
      let xs = take g.slab_blocks (drop (n * g.slab_blocks) o.counters.items) in
      ap (λ (ys : List ℕ). slice_index ys (x.0 - slab_start_of c.geometry c.slab)) is.counters
      ∙ ap (λ (h : Geometry). slice_index xs (x.0 - slab_start_of h c.slab)) is.geometry
      ∙ ap (λ (m : ℕ). slice_index xs (x.0 - slab_start_of g m)) is.slab
      ∙ ap (λ (k : ℕ). slice_index xs k) place
      ∙ (get_or-take g.slab_blocks (drop (n * g.slab_blocks) o.counters.items) d.offset 0 d.inside.1 ∙ get_or-drop (n * g.slab_blocks) o.counters.items d.offset 0)
      ∙ ap (λ (m : ℕ). slice_index o.counters.items (m * g.slab_blocks + d.offset)) (sym same)

  said_claims : claims_of c x ≡ 0
  said_claims = ap (λ (ys : List ℕ). slice_index ys (x.0 - slab_start_of c.geometry c.slab)) is.claims ∙ zero_at o.head.geometry.slab_blocks (x.0 - slab_start_of c.geometry c.slab)

-- what an opened zone says of one of its blocks
module _ (o : Opened) (zone zones room : ℕ) (z : Zone) (opens : IsOpeningZone o zone zones room z) (is : IsZone z) (x : Pbn) where
  module _ (own : IsOfZone z x) where
    opening_slab : IsOpening o.head.geometry (slab_number o.head.geometry x) o.counters.items o.tree_pages.items (slab_at z.slabs (slab_number z.geometry x / z.zones))
    opening_slab =
        let place = slab_number z.geometry x / z.zones in
        let there = inside z.geometry z.zone z.zones z.slabs x is.slabs own in
        let one = (opens.slabs.each place (subst (λ (k : ℕ). place < k) opens.slabs.length_is there)).0 in
        let whole : place * zones + zone ≡ slab_number o.head.geometry x
        = omega (arith, div-add-mod' (slab_number z.geometry x) z.zones, own.own, opens.zone, opens.zones, ap (λ (n : ℕ). place * n) opens.zones, ap (λ (h : Geometry). slab_number h x) opens.geometry) in
        subst (λ (n : ℕ). IsOpening o.head.geometry n o.counters.items o.tree_pages.items (slab_at z.slabs place)) whole one

    pub opened_here : (counter_in x z.slabs ≡ opened_count o.head.geometry o.counters.items x) × (claims_in x z.slabs ≡ 0)
    opened_here =
        let d : IsDataBlock o.head.geometry x.0 = subst (λ (h : Geometry). IsDataBlock h x.0) opens.geometry own.data_block in
        let slab = number_is o.head.geometry d.slab d.offset x d.inside.1 d.stands in
        let at_home = home_is z x is own in
        (at_home.0 ∙ said_counter o x (slab_number o.head.geometry x) _ opening_slab d (sym slab) ∙ sym (opened_some o.head.geometry o.counters.items x d), at_home.1 ∙ said_claims o x (slab_number o.head.geometry x) _ opening_slab)

  pub no_ticket : (k : ℕ) → (ticket_of z.desk.out k ≡ None) × (out_with x z.desk ≡ 0)
  no_ticket k = (ap (λ (desk : Desk). ticket_of desk.out k) opens.desk, ap (λ (desk : Desk). out_with x desk) opens.desk)
