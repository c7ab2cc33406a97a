-- For each definition a small case that it accepts, and one that it refuses.
use Rattle.std.proofs.Common.{ℕ, ◌≡◌, ◌+◌, true, List, [], ◌∷◌, length, get_or, refl, ◌∙◌, ap, subst, inl, arith, length-append}
use Rattle.blk_base.specs.Sectors.{zero_block}
use Rattle.blk_base.specs.declared.journal_entry.Update.{Update}
use Rattle.blk_base.specs.declared.point.Point.{Point}
use Rattle.count_updates.specs.Listed.{Lists}
use Rattle.count_updates.proofs.PointLaws.{made as one}
use Rattle.count_updates.specs.FoundLists.{found_lists}
use Rattle.disk_model.specs.Log.{Blocks, block_at}
use Rattle.disk_model.specs.Seen.{Seen}
use Rattle.disk_model.specs.Trust.{trust_of}
use Rattle.disk_model.specs.declared.call.Call.TheVariants.{Flush}
use Rattle.image_model.proofs.CountLaws.{none_in_nothing}
use Rattle.image_model.proofs.CountExample.{holds, journaled}
use Rattle.image_model.proofs.Example.{small}
use Rattle.image_model.proofs.ZeroLaws.{no_commit, no_slab_sector}
use Rattle.slab_codec.proofs.ReadLaws.{written}
use Rattle.slab_codec.specs.declared.forms.SlabEntry.{SlabEntry}
use Rattle.slab_reading.specs.Found.{AddsCounters, AddsPoints, IsFound}
use Rattle.slab_reading.specs.Reads.{IsSlabRead, SlabsRead, read_of}
use Rattle.slab_reading.specs.Slabs.{first_of_slab, blocks_per_slab, point_in, SectorKeeps, BlockKeeps, SlabKeeps, Grew}
use Rattle.slab_reading.proofs.FoundLaws.{found_none}

-- Places: the one reference block of the slab, and the four blocks of its journal behind it.
first_block : first_of_slab small 0 ≡ 149
first_block = refl

five_blocks : blocks_per_slab small ≡ 5
five_blocks = refl

-- What was read of a slab; the last one stands first.
abbrev two_reads : List Blocks
two_reads = ((1 ∷ []) ∷ []) ∷ ((2 ∷ []) ∷ []) ∷ []

read_of_last : read_of two_reads 1 ≡ (1 ∷ []) ∷ []
read_of_last = refl

read_of_first : read_of two_reads 0 ≡ (2 ∷ []) ∷ []
read_of_first = refl

read_of_none : read_of two_reads 2 ≡ []
read_of_none = refl

abbrev seen : Seen
seen = record { opening = []; size = 154; log = []; faults = 0; unkept = 0 }

none_read : SlabsRead (trust_of true true) small seen seen []
none_read = refl

-- nothing else was done
not_flushed : SlabsRead (trust_of true true) small seen (record seen { log = Flush true ∷ [] }) [] → ⊥
not_flushed is = let same = ap (λ (s : Seen). length s.log) is in omega (arith, same)

too_few_read : IsSlabRead (trust_of true true) small 0 seen seen (zero_block ∷ []) → ⊥
too_few_read is = let count = is.count in omega (arith, count)

-- A sector that is valid, and its entry; a block of zeros has none.
abbrev kept : SlabEntry
kept = record { point = record { 0 = 1536 }; offset = 1 }

sector_keeps : SectorKeeps small 0 (block_at journaled 151) 0 kept
sector_keeps = record { sequence = 0; entries = kept ∷ []; valid = written 1 0 64 0 (kept ∷ []) 0 holds (omega arith); listed = (0, omega arith, refl) }

block_keeps : BlockKeeps small 0 (block_at journaled 151) 1 kept
block_keeps = (0, omega arith, sector_keeps)

no_sector_of_block : BlockKeeps small 0 (block_at journaled 151) 0 kept → ⊥
no_sector_of_block keeps = let below = keeps.1 in omega (arith, below)

zeros_keep_none : BlockKeeps small 0 zero_block 8 kept → ⊥
zeros_keep_none keeps = no_slab_sector 1 0 64 keeps.0 keeps.2.sequence keeps.2.entries keeps.1 keeps.2.valid

abbrev read : Blocks
read = zero_block ∷ zero_block ∷ block_at journaled 151 ∷ zero_block ∷ zero_block ∷ []

block_keeps_all : BlockKeeps small 0 (block_at journaled 151) 8 kept
block_keeps_all = (0, omega arith, sector_keeps)

slab_keeps : SlabKeeps small 0 read 4 kept
slab_keeps = (1, omega arith, block_keeps_all)

-- the reference blocks aren't looked at, nor those past the number
first_slot_keeps_none : SlabKeeps small 0 read 1 kept → ⊥
first_slot_keeps_none keeps =
    let first : keeps.0 ≡ 0 = let below = keeps.1 in omega (arith, below) in
    zeros_keep_none (subst (λ (slot : ℕ). BlockKeeps small 0 (get_or read (1 + slot) zero_block) 8 kept) first keeps.2)

-- Lists that grow.
grew_by_none : Grew small 0 (λ entry. ⊥) (one 85 512 ∷ []) (one 85 512 ∷ [])
grew_by_none = record { more = []; is = refl; each = λ at point. ((λ has. absurd (none_in_nothing (one at point) has)), (λ is. absurd is.2)) }

grew_by_another : Grew small 0 (λ entry. ⊥) [] (one 85 512 ∷ []) → ⊥
grew_by_another grew = ((grew.each 85 512).0 (subst (λ (us : List Update). Lists us 85 512) grew.is (0, omega arith, refl))).2

no_counters_yet : AddsCounters small read 0 (3 ∷ []) (3 ∷ [])
no_counters_yet = record { more = []; is = refl; size = refl; each = λ offset below. absurd (omega (arith, below)) }

counter_left_out : AddsCounters small read 1 (3 ∷ []) (3 ∷ []) → ⊥
counter_left_out adds = let size = adds.size in let all = ap length adds.is in omega (arith, size, all, length-append (3 ∷ []) adds.more)

no_points_yet : AddsPoints read 0 [] []
no_points_yet = record { more = []; is = refl; size = refl; each = λ n below. absurd (omega (arith, below)) }

another_point : AddsPoints read 1 [] (record { 0 = 5 } ∷ []) → ⊥
another_point adds =
    let zero : point_in read 0 ≡ 0 = no_commit 0 (omega arith) in
    let five : 5 ≡ point_in read 0 = ap (λ (ps : List Point). (get_or ps 0 (record { 0 = 0 })).0) adds.is ∙ adds.each 0 (omega arith) in
    omega (arith, zero, five)

-- Nothing is found where nothing was read, but the updates that were there.
found_first : IsFound small [] (one 85 512 ∷ []) (found_lists [] [] (one 85 512 ∷ []))
found_first = found_none small (one 85 512 ∷ []) [] [] refl refl

first_left_out : IsFound small [] (one 85 512 ∷ []) (found_lists [] [] []) → ⊥
first_left_out found = none_in_nothing (one 85 512) ((found.updates_are 85 512).1 (inl (0, omega arith, refl)))

counter_of_none : IsFound small [] [] (found_lists (3 ∷ []) [] []) → ⊥
counter_of_none found = let size = found.counters_size in omega (arith, size)

point_of_none : IsFound small [] [] (found_lists [] (record { 0 = 5 } ∷ []) []) → ⊥
point_of_none found = let size = found.commits_size in omega (arith, size)
