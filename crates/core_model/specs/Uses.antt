-- How often a data block was claimed, mapped and let go, by what happened: which blocks are free at a moment.
use Rattle.std.specs.Prelude.{ℕ, zero, suc, Bool, ◌&&◌, if◌then◌else◌, ◌+◌, ◌≡◌, ◌<◌, nat_eq, nat_lt, Option, None, Some, [], ◌∷◌}
use Rattle.blk_base.specs.Regions.{DataBlock, IsDataBlock, block_of}
use Rattle.blk_base.specs.declared.place.Pbn.{Pbn}
use Rattle.plain_laws.specs.Sums.{bit, total}
use Rattle.core_model.specs.Sessions.{Session, opened_uses}
use Rattle.core_model.specs.Tokens.{is_block, is_entry, is_old}
use Rattle.data_vio.specs.Zones.{physical_zone_of}
use Rattle.core_model.specs.PageLinks.{block_in}
use Rattle.core_model.specs.Trace.{Trace, Asks, Drops, Removes, Withdraws, added, claimed, removed, unclaimed}
use Rattle.data_vio.specs.declared.sizes.Sizes.{Sizes}

-- How often it came to be used: by the mappings of the opened image, and by claims, those of tickets among them. An increment changes
-- nothing of that: a claim becomes a mapping.
abbrev pub gained : Session → Trace → Pbn → ℕ
gained s t x = opened_uses s x + total (is_block x) (claimed t)

-- how often a use of it went: a claim was dropped, or a decrement taken
abbrev pub lost : Trace → Pbn → ℕ
lost t x = total (is_block x) (unclaimed t) + total (is_old x) (removed t)

-- how many mappings of it were counted, and how many taken off
abbrev pub counted : Session → Trace → Pbn → ℕ
counted s t x = opened_uses s x + total (is_entry x) (added t)

abbrev pub uncounted : Trace → Pbn → ℕ
uncounted t x = total (is_old x) (removed t)

-- What is known of the ticket of this number in a physical zone: `None` where it isn't out, and `Some None` where no block went to it.
abbrev pub given_at : Sizes → Option Pbn → Option ℕ → (zone number : ℕ) → Option (Option Pbn) → Option (Option Pbn)
given_at sizes (Some x) (Some k) zone number earlier = if nat_eq (physical_zone_of sizes x) zone && nat_eq k number then Some (Some x) else earlier
given_at sizes other to zone number earlier = earlier

abbrev pub ticket_at : Sizes → Trace → (zone number : ℕ) → Option (Option Pbn)
ticket_at sizes [] zone number = None
ticket_at sizes (Asks w k ∷ t) zone number = if nat_eq k.zone zone && nat_eq k.number number then Some None else ticket_at sizes t zone number
ticket_at sizes (Withdraws w k got ∷ t) zone number = if nat_eq k.zone zone && nat_eq k.number number then None else ticket_at sizes t zone number
ticket_at sizes (Drops w x to ∷ t) zone number = given_at sizes (Some x) to zone number (ticket_at sizes t zone number)
ticket_at sizes (Removes e to ∷ t) zone number = given_at sizes (block_in e.old) to zone number (ticket_at sizes t zone number)
ticket_at sizes (other ∷ t) zone number = ticket_at sizes t zone number

-- how many tickets it gave
abbrev pub issued : Trace → (zone : ℕ) → ℕ
issued [] zone = 0
issued (Asks w k ∷ t) zone = bit (nat_eq k.zone zone) + issued t zone
issued (other ∷ t) zone = issued t zone

-- a ticket waits there: no block went to it
abbrev pub Waits : Sizes → Trace → (zone number : ℕ) → Type 0
Waits sizes t zone number = ticket_at sizes t zone number ≡ Some None

-- nothing is mapped to it, and nobody has a claim on it
abbrev pub IsFreeAt : Session → Trace → Pbn → Type 0
IsFreeAt s t x = gained s t x ≡ lost t x

-- a block is used at a moment: it has a mapping or a claim
abbrev pub IsUsedAt : Session → Trace → Pbn → Type 0
IsUsedAt s t x = lost t x < gained s t x

-- no data block of a physical zone is free, and none at all
abbrev pub NoneFreeIn : Session → Trace → ℕ → Type 0
NoneFreeIn s t zone = (x : Pbn) → IsDataBlock s.sizes.geometry x.0 → physical_zone_of s.sizes x ≡ zone → IsFreeAt s t x → ⊥

abbrev pub NoneFree : Session → Trace → Type 0
NoneFree s t = (x : Pbn) → IsDataBlock s.sizes.geometry x.0 → IsFreeAt s t x → ⊥

-- the sum of a number of each number below this
abbrev pub sum_below : (ℕ → ℕ) → ℕ → ℕ
sum_below f zero = 0
sum_below f (suc n) = sum_below f n + f n

-- its counter is above 0
abbrev pub is_used : Session → Trace → Pbn → Bool
is_used s t x = nat_lt (uncounted t x) (counted s t x)

-- of how many data blocks of a slab, and of how many of all
abbrev pub used_of_slab : Session → Trace → ℕ → ℕ
used_of_slab s t slab = sum_below (λ offset. bit (is_used s t (record { 0 = block_of s.sizes.geometry (DataBlock slab offset) }))) s.sizes.geometry.slab_blocks

abbrev pub used_at : Session → Trace → ℕ
used_at s t = sum_below (used_of_slab s t) s.sizes.geometry.slabs
