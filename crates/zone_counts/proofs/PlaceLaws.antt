-- Where the slab of a data block stands.
use Rattle.std.specs.Prelude.{ℕ, ◌≡◌, ◌+◌, ◌-◌, ◌*◌, ◌/◌, ◌<◌}
use Rattle.std.proofs.Common.{List, set, subst, sym, ◌∙◌, ap, arith}
use Rattle.std.proofs.lemmas.Nat.{div-mul-add}
use Rattle.blk_base.specs.Regions.{slab_stride_of, slab_start_of, first_slab_of}
use Rattle.blk_base.specs.declared.geometry.Geometry.{Geometry}
use Rattle.blk_base.specs.declared.place.Pbn.{Pbn}
use Rattle.slab_counts.specs.Counts.{Counts, IsOfSlab, IsClaimed, claims_of}
use Rattle.slab_tickets.specs.Tickets.{Desk}
use Rattle.zone_counts.specs.Zone.{Zone, IsClaimedIn, Serves, Changes, slab_at, slab_of, place_in, index_of, slab_number}

-- a block's slab is the one that it has by its number
pub number_is : (g : Geometry) (slab offset : ℕ) (at : Pbn) → offset < g.slab_blocks → slab_start_of g slab + offset ≡ at.0 → slab_number g at ≡ slab
number_is g slab offset at inside stands =
    let behind : at.0 - first_slab_of g ≡ slab * slab_stride_of g + offset = omega (arith, stands) in
    ap (λ (n : ℕ). n / slab_stride_of g) behind ∙ div-mul-add slab (slab_stride_of g) offset (omega (arith, inside))

-- the slab that was read, as that of the block in the whole zone
module _ (z now : Zone) (view : z ≡ now) (k : ℕ) (s : Counts) (at block : Pbn) (same : block ≡ at) (place : k ≡ place_in z.geometry z.zones block) (read : s ≡ slab_at z.slabs k) where
  pub place_now : k ≡ index_of now at
  place_now = place ∙ ap (λ (b : Pbn). place_in z.geometry z.zones b) same ∙ ap (λ (x : Zone). index_of x at) view

  pub slab_now : s ≡ slab_of now at
  slab_now = read ∙ ap (λ (n : ℕ). slab_at z.slabs n) place_now ∙ ap (λ (x : Zone). slab_at x.slabs (index_of now at)) view

  pub claimed_now : (seen : List Counts) → seen ≡ z.slabs → IsOfSlab (slab_at seen k) block → IsClaimedIn now at → IsClaimed s at
  claimed_now seen is here claimed = record {
    of_slab = subst (λ (x : Counts). IsOfSlab x at) (sym read) (subst (λ (xs : List Counts). IsOfSlab (slab_at xs k) at) is (subst (λ (b : Pbn). IsOfSlab (slab_at seen k) b) same here));
    some = subst (λ (x : Counts). 0 < claims_of x at) (sym slab_now) claimed.some;
  }

  pub changes_now : (c : Counts) (slabs' : List Counts) (desk' : Desk) → Serves (set z.slabs k c) z.desk slabs' desk' → Changes now (record z { slabs = slabs'; desk = desk' }) at c
  changes_now c slabs' desk' serves = record {
    serves = subst (λ (x : Zone). Serves (set x.slabs (index_of now at) c) x.desk slabs' desk') view
        (subst (λ (n : ℕ). Serves (set z.slabs n c) z.desk slabs' desk') place_now serves);
    same = ap (λ (x : Zone). record x { slabs = slabs'; desk = desk' }) view;
  }
