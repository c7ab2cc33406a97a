-- A call has one answer.
use Rattle.std.specs.Prelude.{ℕ, ◌≡◌, ◌+◌, slice_index}
use Rattle.std.proofs.Common.{sym, ◌∙◌, ap, arith, inl, inr, refl}
use Rattle.std.proofs.lemmas.Bool.{cases_lt}
use Rattle.blk_base.specs.declared.place.Pbn.{Pbn}
use Rattle.blk_base.specs.declared.point.Half.{Half}
use Rattle.blk_base.specs.declared.point.Half.TheVariants.{Increment, Decrement}
use Rattle.slab_counts.specs.Counts.{Counts, ClaimsFree, HasNoFree, Shares, IsRefused, Takes, IsStray, claimed, offset_of}
use Rattle.slab_counts.specs.Kept.{IsWithin}
use Rattle.lane_kernels.specs.Kernels.{IsLeastFree}
use Rattle.blk_base.specs.Regions.{slab_start_of}
use Rattle.slab_counts.specs.declared.refusals.Refusal.{Refusal}
use Rattle.slab_counts.specs.declared.refusals.Refusal.TheVariants.{NotData, NotLive, Full}

pub one_free : (old new : Counts) (at : Pbn) (new' : Counts) (at' : Pbn) → ClaimsFree old new at → ClaimsFree old new' at' → (at ≡ at') × (new ≡ new')
one_free old new at new' at' one other =
    let number : at.0 ≡ at'.0 = elim (cases_lt at.0 at'.0) [
      | inl below ↦ absurd (other.lowest at one.of_slab below one.free)
      | inr above ↦ elim (cases_lt at'.0 at.0) [
        | inl less ↦ absurd (one.lowest at' other.of_slab less other.free)
        | inr equal ↦ omega arith
      ]
    ] in
    let block : at ≡ at' = ap (λ (n : ℕ). record { 0 = n }) number in
    (block, one.now_claimed ∙ ap (λ (b : Pbn). claimed old b) block ∙ sym other.now_claimed)

pub one_or_none : (old new : Counts) (at : Pbn) → ClaimsFree old new at → HasNoFree old → ⊥
one_or_none old new at one none = none at one.of_slab one.free

pub shared_or_refused : (old new : Counts) (at : Pbn) (refusal : Refusal) → Shares old new at → IsRefused refusal old at → ⊥
shared_or_refused old new at NotData shares refused = elim refused [ inl outside ↦ outside shares.of_slab | inr page ↦ shares.data_block page ]
shared_or_refused old new at NotLive shares refused = omega (arith, shares.live, refused.2)
shared_or_refused old new at Full shares refused = refused.3 shares.room

pub one_refusal : (old : Counts) (at : Pbn) (one other : Refusal) → IsRefused one old at → IsRefused other old at → one ≡ other
one_refusal old at NotData NotData is is' = refl
one_refusal old at NotData NotLive is is' = absurd (elim is [ inl outside ↦ outside is'.0 | inr page ↦ is'.1 page ])
one_refusal old at NotData Full is is' = absurd (elim is [ inl outside ↦ outside is'.0 | inr page ↦ is'.1 page ])
one_refusal old at NotLive NotData is is' = absurd (elim is' [ inl outside ↦ outside is.0 | inr page ↦ is.1 page ])
one_refusal old at NotLive NotLive is is' = refl
one_refusal old at NotLive Full is is' = absurd (omega (arith, is.2, is'.2))
one_refusal old at Full NotData is is' = absurd (elim is' [ inl outside ↦ outside is.0 | inr page ↦ is.1 page ])
one_refusal old at Full NotLive is is' = absurd (omega (arith, is.2, is'.2))
one_refusal old at Full Full is is' = refl

pub taken_or_stray : (half : Half) (old new : Counts) (at : Pbn) → Takes half old new at → IsStray half old at → ⊥
taken_or_stray Increment old new at taken stray = elim stray [ inl full ↦ omega (arith, full, taken.0) | inr none ↦ omega (arith, none, taken.1) ]
taken_or_stray Decrement old new at taken stray = omega (arith, stray, taken.0)

-- where a place is free, some block is
pub some_free : (c : Counts) (place : ℕ) → IsWithin c → IsLeastFree c.counters c.claims place → HasNoFree c → ⊥
some_free c place within is none =
    let at : Pbn = record { 0 = slab_start_of c.geometry c.slab + place } in
    let offset : offset_of c at ≡ place = omega arith in
    none at (omega arith, omega (arith, is.inside, within.counters))
    (ap (λ (k : ℕ). slice_index c.counters k) offset ∙ is.free.0, ap (λ (k : ℕ). slice_index c.claims k) offset ∙ is.free.1)
