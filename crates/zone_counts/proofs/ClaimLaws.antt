-- Each claim that a zone gives is on a block of the zone.
use Rattle.std.specs.Prelude.{ℕ, ◌≡◌, ◌+◌, ◌-◌, ◌*◌, ◌/◌, ◌%◌, ◌<◌, List, length}
use Rattle.std.proofs.Common.{sym, ◌∙◌, ap, subst, arith, set, get_or-set_same}
use Rattle.std.proofs.lemmas.Nat.{div-mul-add, mod-mul-add}
use Rattle.blk_base.specs.Regions.{slab_start_of}
use Rattle.blk_base.specs.declared.geometry.Geometry.{Geometry}
use Rattle.blk_base.specs.declared.place.Pbn.{Pbn}
use Rattle.slab_counts.specs.Counts.{Counts, IsOfSlab, claims_of, claimed, offset_of}
use Rattle.slab_counts.specs.Kept.{IsWithin}
use Rattle.zone_counts.specs.Zone.{Zone, IsZone, IsOf, IsOfZone, IsClaimedIn, AreSlabs, place_in, index_of, slab_number, slab_at, slab_of, with_slab, nowhere}
use Rattle.zone_counts.specs.ZoneAnswers.{GivesBlock, SharesIn}
use Rattle.zone_counts.proofs.PlaceLaws.{number_is}
use Rattle.zone_counts.proofs.OperationLaws.{inside, of_slab}

-- a block of one of the slabs is of the zone, and that is its slab
module _ (g : Geometry) (zone zones : ℕ) (slabs : List Counts) (k : ℕ) (at : Pbn) (are : AreSlabs g zone zones slabs) (there : k < length slabs) (here : IsOfSlab (slab_at slabs k) at) where
  start : slab_start_of (slab_at slabs k).geometry (slab_at slabs k).slab ≡ slab_start_of g (k * zones + zone)
  start = ap (λ (h : Geometry). slab_start_of h (slab_at slabs k).slab) (are.each k there).1 ∙ ap (λ (n : ℕ). slab_start_of g n) (are.each k there).0

  small : at.0 - slab_start_of g (k * zones + zone) < g.slab_blocks
  small = omega (arith, start, here.0, here.1, ap (λ (h : Geometry). h.slab_blocks) (are.each k there).1)

  stands : slab_start_of g (k * zones + zone) + (at.0 - slab_start_of g (k * zones + zone)) ≡ at.0
  stands = omega (arith, start, here.0)

  number : slab_number g at ≡ k * zones + zone
  number = number_is g (k * zones + zone) (at.0 - slab_start_of g (k * zones + zone)) at small stands

  pub is_of : IsOf g zone zones at
  is_of = record {
    data_block = record {
      slab = k * zones + zone;
      offset = at.0 - slab_start_of g (k * zones + zone);
      inside = (omega (arith, (are.each k there).2.slab, (are.each k there).0, ap (λ (h : Geometry). h.slabs) (are.each k there).1), small);
      stands = stands;
    };
    own = ap (λ (n : ℕ). n % zones) number ∙ mod-mul-add k zones zone are.number;
  }

  pub place_is : place_in g zones at ≡ k
  place_is = ap (λ (n : ℕ). n / zones) number ∙ div-mul-add k zones zone are.number

-- a block with one more claim is claimed
some_claim : (c : Counts) (at : Pbn) → IsWithin c → IsOfSlab c at → 0 < claims_of (claimed c at) at
some_claim c at within here =
    omega (arith, get_or-set_same c.claims (offset_of c at) (claims_of c at + 1) 0 (omega (arith, within.claims, here.0, here.1)))

module _ (z : Zone) (is : IsZone z) (at : Pbn) (own : IsOfZone z at) where
  at_slab : slab_at (set z.slabs (index_of z at) (claimed (slab_of z at) at)) (index_of z at) ≡ claimed (slab_of z at) at
  at_slab = get_or-set_same z.slabs (index_of z at) (claimed (slab_of z at) at) nowhere (inside z.geometry z.zone z.zones z.slabs at is.slabs own)

  pub claimed_here : IsClaimedIn (with_slab z at (claimed (slab_of z at) at)) at
  claimed_here = record {
    own = record { data_block = own.data_block; own = own.own };
    some = subst (λ (c : Counts). 0 < claims_of c at) (sym at_slab)
        (some_claim (slab_of z at) at (is.slabs.each (index_of z at) (inside z.geometry z.zone z.zones z.slabs at is.slabs own)).2 (of_slab z.geometry z.zone z.zones z.slabs at is.slabs own));
  }

pub shared_is : (old new : Zone) (at : Pbn) → IsZone old → SharesIn old new at → IsClaimedIn new at
shared_is old new at is did =
    subst (λ (z : Zone). IsClaimedIn z at) (sym (did.after ∙ ap (λ (c : Counts). with_slab old at c) did.shares.now_claimed)) (claimed_here old is at did.own)

pub extended_is : (old new : Zone) (at : Pbn) → IsZone old → IsClaimedIn old at → new ≡ with_slab old at (claimed (slab_of old at) at) → IsClaimedIn new at
extended_is old new at is claimed did = subst (λ (z : Zone). IsClaimedIn z at) (sym did) (claimed_here old is at claimed.own)

pub given_is : (old new : Zone) (block : Pbn) → IsZone old → GivesBlock old new block → IsClaimedIn new block
given_is old new block is did =
    let c = did.claims in
    let own = is_of old.geometry old.zone old.zones old.slabs c.place block is.slabs c.inside c.claims.of_slab in
    let place = place_is old.geometry old.zone old.zones old.slabs c.place block is.slabs c.inside c.claims.of_slab in
    let same : new ≡ with_slab old block (claimed (slab_of old block) block)
    = did.same ∙ ap (λ (xs : List Counts). record old { slabs = xs })
    (c.after ∙ ap (λ (x : Counts). set old.slabs c.place x) c.claims.now_claimed ∙ ap (λ (k : ℕ). set old.slabs k (claimed (slab_at old.slabs k) block)) (sym place)) in
    subst (λ (z : Zone). IsClaimedIn z block) (sym same) (claimed_here old is block own)
