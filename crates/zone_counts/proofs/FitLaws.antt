-- What a zone gives was free; counter and claims of a block are within the limit, so what there is a claim or a mapping for fits.
use Rattle.std.specs.Prelude.{ℕ, ◌≡◌, ◌⊎◌, ◌↔◌, ◌+◌, ◌%◌, ◌<◌, ◌≤◌, List, [], position, not, None}
use Rattle.std.proofs.Common.{refl, ap, sym, ◌∙◌, subst, arith, inl, inr}
use Rattle.std.proofs.lemmas.Bool.{cases_eq}
use Rattle.blk_base.specs.Counters.{limit_of}
use Rattle.blk_base.specs.declared.geometry.Geometry.{Geometry}
use Rattle.blk_base.specs.declared.opened.Opened.{Opened}
use Rattle.blk_base.specs.declared.place.Pbn.{Pbn}
use Rattle.blk_base.specs.declared.point.Half.TheVariants.{Increment, Decrement}
use Rattle.slab_counts.specs.Counts.{Counts, IsFree, IsStray, Takes, claims_of, counter_of, mapped, offset_of, unmapped}
use Rattle.slab_tickets.specs.Tickets.{Desk, is_served}
use Rattle.zone_counts.specs.ZoneAnswers.{GivesBlock}
use Rattle.zone_counts.specs.ByBlock.{counter_in, claims_in}
use Rattle.zone_counts.specs.Zone.{Zone, Changes, IsClaimedIn, IsOfZone, IsOpeningZone, IsZone, NoneFree, Serves, index_of, slab_number, slab_of, with_slab}
use Rattle.zone_counts.proofs.BlockLaws.{claimed, foreign_is, home_is, in_it, of_it, stands}
use Rattle.zone_counts.proofs.ClaimLaws.{is_of}
use Rattle.zone_counts.proofs.FreeBlocks.{zone_free}
use Rattle.zone_counts.proofs.OpenedCounts.{is_data, is_none, opened_here, tells_data}

-- a block is of the zone, or it isn't
pub own_or_not : (z : Zone) (at : Pbn) → IsOfZone z at ⊎ (IsOfZone z at → ⊥)
own_or_not z at = elim (tells_data z.geometry at) [
  | is_none not_it out ↦ inr (λ own. out own.data_block)
  | is_data yes_it here ↦ elim (cases_eq (slab_number z.geometry at % z.zones) z.zone) [
    | inl same ↦ inl (record { data_block = here; own = same })
    | inr other ↦ inr (λ own. other own.own)
  ]
]

pub was_free : (old new : Zone) (block : Pbn) → IsZone old → GivesBlock old new block → IsOfZone old block × (counter_in block old.slabs ≡ 0) × (claims_in block old.slabs ≡ 0)
was_free old new block is did =
    let c = did.claims in
    let own = is_of old.geometry old.zone old.zones old.slabs c.place block is.slabs c.inside c.claims.of_slab in
    let free = (claimed old.geometry old.zone old.zones old.slabs new.slabs block is.slabs c).was_free block refl in
    (own, free.0, free.1)

pub free_is : (z : Zone) (at : Pbn) → IsZone z → IsOfZone z at → IsFree (slab_of z at) at ↔ (counter_in at z.slabs + claims_in at z.slabs ≡ 0)
free_is z at is own =
    let home = home_is z at is own in
    ((λ free. omega (arith, home.0, home.1, free.0, free.1)), (λ none. (omega (arith, home.0, home.1, none), omega (arith, home.0, home.1, none))))

pub none_is_free : (z : Zone) (at : Pbn) → IsZone z → NoneFree z.slabs → IsOfZone z at → 0 < counter_in at z.slabs + claims_in at z.slabs
none_is_free z at is none own = elim (cases_eq (counter_in at z.slabs + claims_in at z.slabs) 0) [
  | inl free ↦ absurd (none (index_of z at) (stands z at is own) at (of_it z at is own) ((free_is z at is own).1 free))
  | inr some ↦ omega (arith, some)
]

-- the lowest free block is claimed, or none is free
pub gives_or_none : (z : Zone) → NoneFree z.slabs ⊎ ((block : Pbn) × (new : Zone) × GivesBlock z new block)
gives_or_none z = elim (zone_free z.slabs) [ inl none ↦ inl none | inr found ↦ inr (found.0, record z { slabs = found.1 }, record { claims = found.2; same = refl }) ]

-- an opened zone has no claims
pub opened_claims : (o : Opened) (zone zones room : ℕ) (z : Zone) → IsOpeningZone o zone zones room z → IsZone z → (at : Pbn) → claims_in at z.slabs ≡ 0
opened_claims o zone zones room z opens is at = elim (own_or_not z at) [ inl own ↦ (opened_here o zone zones room z opens is at own).1 | inr out ↦ (foreign_is z at is out).1 ]

-- the geometry of a block's slab
slab_geometry : (z : Zone) (at : Pbn) (is : IsZone z) (own : IsOfZone z at) → (slab_of z at).geometry ≡ z.geometry
slab_geometry z at is own = (is.slabs.each (index_of z at) (stands z at is own)).1

home_within : (z : Zone) (at : Pbn) → IsZone z → IsOfZone z at → counter_of (slab_of z at) at + claims_of (slab_of z at) at ≤ limit_of z.geometry
home_within z at is own = subst (λ (g : Geometry). counter_of (slab_of z at) at + claims_of (slab_of z at) at ≤ limit_of g) (slab_geometry z at is own) ((in_it z at is own).limit (offset_of (slab_of z at) at))

pub within_limit : (z : Zone) (at : Pbn) → IsZone z → counter_in at z.slabs + claims_in at z.slabs ≤ limit_of z.geometry
within_limit z at is = elim (own_or_not z at) [
  | inl own ↦ let home = home_is z at is own in omega (arith, home.0, home.1, home_within z at is own)
  | inr out ↦ let none = foreign_is z at is out in omega (arith, none.0, none.1)
]

pub claimed_is : (z : Zone) (at : Pbn) → IsZone z → IsOfZone z at → IsClaimedIn z at ↔ (0 < claims_in at z.slabs)
claimed_is z at is own =
    let home = home_is z at is own in
    ((λ claim. let some = claim.some in omega (arith, home.1, some)), (λ some. record { own = own; some = omega (arith, home.1, some) }))

pub add_fits : (z : Zone) (at : Pbn) → IsZone z → IsOfZone z at → 0 < claims_in at z.slabs → (slab : Counts) × Takes Increment (slab_of z at) slab at
add_fits z at is own some =
    let home = home_is z at is own in
    let room : counter_of (slab_of z at) at < limit_of (slab_of z at).geometry
    = subst (λ (g : Geometry). counter_of (slab_of z at) at < limit_of g) (sym (slab_geometry z at is own)) (omega (arith, home.1, some, home_within z at is own)) in
    (mapped (slab_of z at) at, (room, omega (arith, home.1, some), refl))

pub remove_fits : (z : Zone) (at : Pbn) → IsZone z → IsOfZone z at → 0 < counter_in at z.slabs → (slab : Counts) × Takes Decrement (slab_of z at) slab at
remove_fits z at is own some = let home = home_is z at is own in (unmapped (slab_of z at) at, (omega (arith, home.0, some), refl))

pub none_is_stray : (z : Zone) (at : Pbn) → IsZone z → IsOfZone z at → counter_in at z.slabs ≡ 0 → IsStray Decrement (slab_of z at) at
none_is_stray z at is own none = let home = home_is z at is own in omega (arith, home.0, none)

-- where no ticket is out, nothing is served
pub quiet_change : (old new : Zone) (at : Pbn) (slab : Counts) → old.desk.out ≡ [] → Changes old new at slab → new ≡ with_slab old at slab
quiet_change old new at slab none change = by change.serves
  where
    nobody : position (λ waiting. not (is_served waiting)) old.desk.out ≡ None
    nobody = ap (position (λ waiting. not (is_served waiting))) none

    by : Serves (with_slab old at slab).slabs old.desk new.slabs new.desk → new ≡ with_slab old at slab
    by (inl (quiet, same, same')) = change.same ∙ ap (λ (xs : List Counts). record old { slabs = xs; desk = new.desk }) same ∙ ap (λ (d : Desk). record (with_slab old at slab) { desk = d }) same'
    by (inr serves) = let found = serves.gives.oldest in cc
