-- What a call on one slab makes of the counter and the claims of each block, over all slabs of the zone.
use Rattle.std.specs.Prelude.{ℕ, ◌≡◌, ◌≢◌, ◌+◌, ◌<◌, Bool, true, false, not, ◌&&◌, cond, nat_lt, List, length, Some, slice_get, slice_set}
use Rattle.std.proofs.Common.{refl, ap, ◌∙◌, arith, inl, inr}
use Rattle.std.proofs.lemmas.Bool.{cases_lt, lt-ltb, le-ltb}
use Rattle.std.proofs.lemmas.List.{get_or_default}
use Rattle.std.proofs.lemmas.Option.{slice_get_read}
use Rattle.blk_base.specs.Regions.{slab_start_of}
use Rattle.blk_base.specs.declared.place.Pbn.{Pbn}
use Rattle.plain_laws.proofs.ListLaws.{total-set}
use Rattle.slab_counts.specs.Counts.{Counts, IsOfSlab, counter_of, claims_of}
use Rattle.slab_counts.specs.Kept.{IsWithin}
use Rattle.slab_counts.specs.Operations.{Operation, Does, makes, drops, maps, unmaps}
use Rattle.slab_counts.proofs.OperationLaws.{call_same, call_counts, call_claims}
use Rattle.zone_counts.specs.Zone.{slab_at, nowhere}
use Rattle.zone_counts.proofs.OperationLaws.{inside}
use Rattle.zone_counts.specs.ByBlock.{has_block, counter_at, claims_at, counter_in, claims_in}

-- a slab has the block, or it hasn't
pub data Has (x : Pbn) (c : Counts) : Type 0 where
  has : has_block x c ≡ true → IsOfSlab c x → Has x c
  lacks : has_block x c ≡ false → (IsOfSlab c x → ⊥) → Has x c

pub tells : (x : Pbn) (c : Counts) → Has x c
tells x c = elim (cases_lt x.0 (slab_start_of c.geometry c.slab)) [
  | inl below ↦ lacks (ap (λ (b : Bool). not b && nat_lt x.0 (slab_start_of c.geometry c.slab + c.geometry.slab_blocks)) (lt-ltb _ _ below)) (λ here. omega (arith, here.0, below))
  | inr above ↦ elim (cases_lt x.0 (slab_start_of c.geometry c.slab + c.geometry.slab_blocks)) [
    | inl inside ↦ has (rw (le-ltb _ _ above, lt-ltb _ _ inside) refl) (above, inside)
    | inr past ↦ lacks (rw (le-ltb _ _ above, le-ltb _ _ past) refl) (λ here. omega (arith, here.1, past))
  ]
]

pub counter_here : (x : Pbn) (c : Counts) → has_block x c ≡ true → counter_at x c ≡ counter_of c x
counter_here x c is = ap (λ (b : Bool). cond b (counter_of c x) 0) is

pub claims_here : (x : Pbn) (c : Counts) → has_block x c ≡ true → claims_at x c ≡ claims_of c x
claims_here x c is = ap (λ (b : Bool). cond b (claims_of c x) 0) is

pub counter_out : (x : Pbn) (c : Counts) → has_block x c ≡ false → counter_at x c ≡ 0
counter_out x c is = ap (λ (b : Bool). cond b (counter_of c x) 0) is

pub claims_out : (x : Pbn) (c : Counts) → has_block x c ≡ false → claims_at x c ≡ 0
claims_out x c is = ap (λ (b : Bool). cond b (claims_of c x) 0) is

has_same : (x : Pbn) (old new : Counts) → new.geometry ≡ old.geometry → new.slab ≡ old.slab → has_block x new ≡ has_block x old
has_same x old new g n = rw (g, n) refl

-- one call about one block
module _ (call : Operation) (old new : Counts) (at : Pbn) (within : IsWithin old) (did : Does call old new) (here : IsOfSlab old at)
    (about : (b : Pbn) → at.0 ≢ b.0 → makes call b + drops call b + maps call b + unmaps call b ≡ 0) where
  other_block : (x : Pbn) → (IsOfSlab old x → ⊥) → at.0 ≢ x.0
  other_block x out same = out (omega (arith, here.0, same), omega (arith, here.1, same))

  pub slab_counter : (x : Pbn) → counter_at x new + unmaps call x ≡ counter_at x old + maps call x
  slab_counter x =
      let same = call_same call old new did in
      let still = has_same x old new same.0 same.1 in
      elim (tells x old) [
        | has is inside ↦ omega (arith, counter_here x old is, counter_here x new (still ∙ is), call_counts call old new x within inside did)
        | lacks is out ↦ omega (arith, counter_out x old is, counter_out x new (still ∙ is), about x (other_block x out))
      ]

  pub slab_claims : (x : Pbn) → claims_at x new + (drops call x + maps call x) ≡ claims_at x old + makes call x
  slab_claims x =
      let same = call_same call old new did in
      let still = has_same x old new same.0 same.1 in
      elim (tells x old) [
        | has is inside ↦ omega (arith, claims_here x old is, claims_here x new (still ∙ is), call_claims call old new x within inside did)
        | lacks is out ↦ omega (arith, claims_out x old is, claims_out x new (still ∙ is), about x (other_block x out))
      ]

  -- the same over all slabs
  module _ (slabs : List Counts) (k : ℕ) (place : k < length slabs) (is : slab_at slabs k ≡ old) where
    read : slice_get slabs k ≡ Some old
    read = slice_get_read slabs (length slabs) k (slab_at slabs k) refl place (get_or_default slabs k nowhere (slab_at slabs k) place) ∙ ap (λ (c : Counts). Some c) is

    pub counter_set : (x : Pbn) → counter_in x (slice_set slabs k new) + unmaps call x ≡ counter_in x slabs + maps call x
    counter_set x = omega (arith, total-set (counter_at x) slabs k old new read, slab_counter x)

    pub claims_set : (x : Pbn) → claims_in x (slice_set slabs k new) + (drops call x + maps call x) ≡ claims_in x slabs + makes call x
    claims_set x = omega (arith, total-set (claims_at x) slabs k old new read, slab_claims x)
