-- Lists of calls on a slab's counters and claims, and what they counted.
use Rattle.std.specs.Prelude.{ℕ, ◌≡◌, ◌+◌, ◌==◌, if◌then◌else◌, List, [], ◌∷◌}
use Rattle.blk_base.specs.declared.place.Pbn.{Pbn}
use Rattle.blk_base.specs.declared.point.Half.{Half}
use Rattle.blk_base.specs.declared.point.Half.TheVariants.{Increment, Decrement}
use Rattle.plain_laws.specs.Leads.{LeadsBy}
use Rattle.slab_counts.specs.Counts.{Counts, IsOfSlab, IsClaimed, HasRoom, ClaimsFree, Shares, Takes, claimed, unclaimed, with_page}

-- a call by what it answered: each that gave a claim has its block
pub data Operation : Type 0 where
  FreeClaimed : Pbn → Operation
  Shared : Pbn → Operation
  Extended : Pbn → Operation
  Dropped : Pbn → Operation
  Spent : Pbn → Operation
  PageSpent : Pbn → Operation
  Applied : Half → Pbn → Operation
  Refused : Operation

-- what a call does, as its contract says; one that is refused changes nothing
abbrev pub Does : Operation → Counts → Counts → Type 0
Does (FreeClaimed at) old new = ClaimsFree old new at
Does (Shared at) old new = Shares old new at
Does (Extended at) old new = IsClaimed old at × HasRoom old at × (new ≡ claimed old at)
Does (Dropped at) old new = IsClaimed old at × (new ≡ unclaimed old at)
Does (Spent at) old new = IsClaimed old at × (new ≡ old)
Does (PageSpent at) old new = IsClaimed old at × (new ≡ with_page old at)
Does (Applied half at) old new = IsOfSlab old at × Takes half old new at
Does Refused old new = new ≡ old

-- these calls, the newest first, lead from the ones to the others
abbrev pub LeadTo : Counts → List Operation → Counts → Type 0
LeadTo old calls new = LeadsBy Does old calls new

-- 1 where the block is this one
abbrev pub one_of : Pbn → Pbn → ℕ
one_of at other = if at.0 == other.0 then 1 else 0

-- how many claims on the block a call made, dropped, or spent, and how many mappings of it were counted, and taken off
abbrev pub makes : Operation → Pbn → ℕ
makes (FreeClaimed at) block = one_of at block
makes (Shared at) block = one_of at block
makes (Extended at) block = one_of at block
makes other block = 0

abbrev pub drops : Operation → Pbn → ℕ
drops (Dropped at) block = one_of at block
drops other block = 0

abbrev pub spends : Operation → Pbn → ℕ
spends (Spent at) block = one_of at block
spends (PageSpent at) block = one_of at block
spends other block = 0

abbrev pub maps : Operation → Pbn → ℕ
maps (Applied Increment at) block = one_of at block
maps other block = 0

abbrev pub unmaps : Operation → Pbn → ℕ
unmaps (Applied Decrement at) block = one_of at block
unmaps other block = 0

-- the same of these calls together
abbrev pub total : (Operation → Pbn → ℕ) → List Operation → Pbn → ℕ
total f [] block = 0
total f (call ∷ calls) block = total f calls block + f call block
