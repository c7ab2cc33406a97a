-- What a call on one slab makes of the free blocks there.
use Rattle.std.specs.Prelude.{◌≡◌, ◌+◌, Result, Ok, Err}
use Rattle.std.specs.Result.{OnOk, OnErr}
use Rattle.std.proofs.Common.{sym, subst, arith, inl, inr, refl}
use Rattle.std.proofs.lemmas.Bool.{cases_eq}
use Rattle.blk_base.specs.declared.place.Pbn.{Pbn}
use Rattle.blk_base.specs.declared.point.Half.{Half}
use Rattle.blk_base.specs.declared.point.Half.TheVariants.{Increment, Decrement}
use Rattle.slab_counts.specs.Counts.{Counts, IsOfSlab, IsFree, IsClaimed, HasNoFree, HasRoom, ClaimsFree, Shares, Takes, claimed, unclaimed, with_page}
use Rattle.slab_counts.specs.Kept.{IsWithin}
use Rattle.slab_counts.specs.Operations.{Operation, FreeClaimed, Shared, Extended, Dropped, PageSpent, Applied, Does, one_of, drops, maps, unmaps}
use Rattle.slab_counts.proofs.OperationLaws.{call_same, call_within, call_counts, call_claims, of_slab_still, one_same, one_other}

-- a slab after a call: the same slab, with its numbers within the limit
pub record IsStill (old new : Counts) : Type 0 where
  pub slab : new.slab ≡ old.slab
  pub geometry : new.geometry ≡ old.geometry
  pub within : IsWithin new

pub still : (call : Operation) (old new : Counts) → IsWithin old → Does call old new → IsStill old new
still call old new within did = let same = call_same call old new did in record { slab = same.1; geometry = same.0; within = call_within call old new within did }

-- a call that takes nothing off leaves no other block free
module _ (call : Operation) (old new : Counts) (within : IsWithin old) (did : Does call old new) where
  of_old : (b : Pbn) → IsOfSlab new b → IsOfSlab old b
  of_old b here = let same = call_same call old new did in of_slab_still new old b (sym same.0, sym same.1) here

  pub no_more_free : ((b : Pbn) → unmaps call b + drops call b + maps call b ≡ 0) → HasNoFree old → HasNoFree new
  no_more_free nothing none b here free =
      let here' = of_old b here in
      none b here' (
        omega (arith, call_counts call old new b within here' did, nothing b, free.0),
        omega (arith, call_claims call old new b within here' did, nothing b, free.1),
      )

  -- one that is about one block may free this block alone
  pub only_free : (at : Pbn) → ((b : Pbn) → ¬ (b.0 ≡ at.0) → unmaps call b + drops call b + maps call b ≡ 0) → HasNoFree old → (b : Pbn) → IsOfSlab new b → IsFree new b → b.0 ≡ at.0
  only_free at others none b here free = elim (cases_eq b.0 at.0) [
    | inl same ↦ same
    | inr other ↦
        let here' = of_old b here in
        absurd (none b here' (
          omega (arith, call_counts call old new b within here' did, others b other, free.0),
          omega (arith, call_claims call old new b within here' did, others b other, free.1),
        ))
  ]

not_one : (at b : Pbn) → ¬ (b.0 ≡ at.0) → one_of at b ≡ 0
not_one at b other = one_other at b (λ same. other (sym same))

pub only_dropped : (old new : Counts) (at : Pbn) → IsWithin old → IsClaimed old at → new ≡ unclaimed old at → HasNoFree old → (b : Pbn) → IsOfSlab new b → IsFree new b → b.0 ≡ at.0
only_dropped old new at within is did none =
    only_free (Dropped at) old new within (is, did) at (λ b other. omega (arith, not_one at b other)) none

pub only_applied : (half : Half) (old new : Counts) (at : Pbn) → IsWithin old → IsOfSlab old at → Takes half old new at → HasNoFree old → (b : Pbn) → IsOfSlab new b → IsFree new b → b.0 ≡ at.0
only_applied Increment old new at within here did none =
    only_free (Applied Increment at) old new within (here, did) at (λ b other. omega (arith, not_one at b other)) none
only_applied Decrement old new at within here did none =
    only_free (Applied Decrement at) old new within (here, did) at (λ b other. omega (arith, not_one at b other)) none

-- where only one block was free and it is claimed, none is
pub none_left : (old new : Counts) (at claim : Pbn) → IsWithin old → ((b : Pbn) → IsOfSlab old b → IsFree old b → b.0 ≡ at.0) → ClaimsFree old new claim → HasNoFree new
none_left old new at claim within only did b here free =
    let same = call_same (FreeClaimed claim) old new did in
    let here' = of_slab_still new old b (sym same.0, sym same.1) here in
    let counted = call_counts (FreeClaimed claim) old new b within here' did in
    let kept = call_claims (FreeClaimed claim) old new b within here' did in
    let free' : IsFree old b = (omega (arith, counted, free.0), omega (arith, kept, free.1)) in
    let is : claim.0 ≡ b.0 = omega (arith, only b here' free', only claim did.of_slab did.free) in
    absurd (omega (arith, kept, free.1, one_same claim b is))

-- a slab after a call that frees no block
pub record IsBusier (old new : Counts) : Type 0 where
  pub still : IsStill old new
  pub keeps : HasNoFree old → HasNoFree new

pub busier_same : (old new : Counts) → IsWithin old → new ≡ old → IsBusier old new
busier_same old new within same = subst (λ (c : Counts). IsBusier old c) (sym same) (record { still = record { slab = refl; geometry = refl; within = within }; keeps = λ none. none })

pub busier_shared : {X E : Type 0} (result : Result X E) (old new : Counts) (at : Pbn) → IsWithin old → OnOk result (Shares old new at) → OnErr result (new ≡ old) → IsBusier old new
busier_shared (Ok x) old new at within shares same = record { still = still (Shared at) old new within shares; keeps = no_more_free (Shared at) old new within shares (λ b. refl) }
busier_shared (Err e) old new at within shares same = busier_same old new within same

pub busier_extended : {X E : Type 0} (result : Result X E) (old new : Counts) (at : Pbn) → IsWithin old → IsClaimed old at → OnOk result (HasRoom old at) → OnOk result (new ≡ claimed old at) → OnErr result (new ≡ old)
    → IsBusier old new
busier_extended (Ok x) old new at within is room did same = record {
  still = still (Extended at) old new within (is, room, did);
  keeps = no_more_free (Extended at) old new within (is, room, did) (λ b. refl);
}
busier_extended (Err e) old new at within is room did same = busier_same old new within same

pub busier_page : (old new : Counts) (at : Pbn) → IsWithin old → IsClaimed old at → new ≡ with_page old at → IsBusier old new
busier_page old new at within is did = record {
  still = still (PageSpent at) old new within (is, did);
  keeps = no_more_free (PageSpent at) old new within (is, did) (λ b. refl);
}
