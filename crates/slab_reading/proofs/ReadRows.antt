-- Reading slabs: for each clause a small case that it accepts, and one that breaks it alone and is refused. The device
-- doesn't tell which calls were made, where nothing else is said.
use Rattle.std.proofs.Common.{ℕ, ◌≡◌, Bool, true, false, List, [], ◌∷◌, ◌++◌, length, length-append, replicate, refl, ap, subst, arith}
use Rattle.blk_base.specs.Sectors.{zero_block}
use Rattle.blk_base.specs.declared.geometry.Geometry.{Geometry}
use Rattle.blk_base.specs.declared.journal_entry.Update.{Update}
use Rattle.blk_base.specs.declared.point.Point.{Point}
use Rattle.blk_base.specs.Forms.{pbn}
use Rattle.byte_fields.specs.Fields.{number_at}
use Rattle.disk_model.specs.declared.call.Call.{Call}
use Rattle.disk_model.specs.declared.call.Call.TheVariants.{Read}
use Rattle.disk_model.specs.Log.{Blocks}
use Rattle.disk_model.specs.Seen.{Seen}
use Rattle.disk_model.specs.Trust.{Trust, trust_of}
use Rattle.image_layout.specs.declared.fault.SuperFault.TheVariants.{NotAnImage}
use Rattle.image_model.proofs.CountLaws.{none_in_nothing}
use Rattle.image_model.proofs.Example.{small}
use Rattle.image_model.specs.declared.fault.ImageFault.TheVariants.{Super, Window, Counter, Counts, Device, Unclean, Memory}
use Rattle.image_model.proofs.ReadExample.{seen, failed, next_failed, zeros_given}
use Rattle.slab_codec.specs.declared.forms.SlabEntry.{SlabEntry}
use Rattle.slab_reading.specs.Found.{IsFound, Took}
use Rattle.slab_reading.specs.Reads.{IsSlabRead, ReadFailed, SlabFailed, SlabFails, SlabsFail, SlabsRead}
use Rattle.slab_reading.specs.Slabs.{IsOf, blocks_per_slab, counter_in, first_of_slab, reference_sector_in}
use Rattle.count_updates.specs.FoundLists.{found_lists}

-- The five blocks of a slab are read.
abbrev pub zero_slab : Blocks
zero_slab = replicate 5 zero_block

slab_read : (honest : Bool) → IsSlabRead (trust_of false honest) small 0 seen seen zero_slab
slab_read honest = record {
  count = refl;
  reads = record {
    told = λ told. absurd (cc told);
    stays = record { opening = refl; size = refl };
    later = record { faults = omega arith; unkept = omega arith };
    given = zeros_given honest (first_of_slab small 0) 5;
    logged = λ told. absurd (cc told);
  };
}

-- count
four_read : (honest : Bool) → IsSlabRead (trust_of false honest) small 0 seen seen (replicate 4 zero_block) → ⊥
four_read honest is = let count = is.count in omega (arith, count)

-- reads: each gave a block
short_block : (honest : Bool) → IsSlabRead (trust_of false honest) small 0 seen seen (replicate 4 zero_block ++ (0 ∷ []) ∷ []) → ⊥
short_block honest is = let size = is.reads.given.0 in omega (arith, size)

-- and from where the slab's blocks are: here a slab has one block, which stands at 149
abbrev tiny : Geometry
tiny = record small { slab_journal = 0 }

one_block : blocks_per_slab tiny ≡ 1
one_block = refl

read_elsewhere : (honest : Bool) (read : Blocks) → IsSlabRead (trust_of true honest) tiny 0 seen (record seen { log = Read (pbn 150) zero_block true ∷ [] }) read → ⊥
read_elsewhere honest [] is = let count = is.count in omega (arith, count)
read_elsewhere honest (block ∷ other ∷ more) is = let count = is.count in omega (arith, count)
read_elsewhere honest (block ∷ []) is = let at = ap first_at (is.reads.logged refl) in omega (arith, at)
  where
    first_at : List Call → ℕ
    first_at (Read at bytes ok ∷ older) = at.0
    first_at other = 0

-- A read failed: the slab has one more block.
slab_failed : (honest : Bool) → SlabFailed (trust_of false honest) small 0 seen failed
slab_failed honest = ([], omega arith, next_failed honest 149)

failed_for_nothing : (trust : Trust) (g : Geometry) (slab : ℕ) → SlabFailed trust g slab seen seen → ⊥
failed_for_nothing trust g slab (blocks, few, fails) = let rose = fails.rose in omega (arith, rose)

abbrev blockless : Geometry
blockless = record small { slab_blocks = 0; slab_journal = 0 }

failed_behind_all : (trust : Trust) (before now : Seen) → SlabFailed trust blockless 0 before now → ⊥
failed_behind_all trust before now (blocks, few, fails) = omega (arith, few)

-- Why a slab isn't read: that, or want of memory; and nothing else
fails_device : (honest : Bool) → SlabFails (trust_of false honest) small 0 seen failed Device
fails_device = slab_failed

fails_memory : (trust : Trust) (before now : Seen) → SlabFails trust small 0 before now Memory
fails_memory trust before now = tt

fails_no_device : (trust : Trust) → SlabFails trust small 0 seen seen Device → ⊥
fails_no_device trust = failed_for_nothing trust small 0

module _ (trust : Trust) (before now : Seen) where
  fails_otherwise : (SlabFails trust small 0 before now (Super NotAnImage) → ⊥) × (SlabFails trust small 0 before now (Window 7) → ⊥)
      × (SlabFails trust small 0 before now (Counter (pbn 86) (record { 0 = 512 })) → ⊥) × (SlabFails trust small 0 before now (Counts (pbn 86) 2 1) → ⊥)
      × (SlabFails trust small 0 before now Unclean → ⊥)
  fails_otherwise = ((λ none. none), (λ none. none), (λ none. none), (λ none. none), (λ none. none))

-- Slabs, one after the other: the newest stands first, and is the one behind the others.
slabs_read : (honest : Bool) → SlabsRead (trust_of false honest) small seen seen (zero_slab ∷ [])
slabs_read honest = (seen, refl, slab_read honest)

slab_left_out : (honest : Bool) → SlabsRead (trust_of false honest) small seen seen ([] ∷ []) → ⊥
slab_left_out honest (middle, older, is) = let count = is.count in omega (arith, count)

abbrev two : Geometry
two = record tiny { slabs = 2 }

second_is_elsewhere : first_of_slab two 1 ≡ 214
second_is_elsewhere = refl

first_at_second : (honest : Bool) (read : Blocks) → SlabsRead (trust_of true honest) two seen (record seen { log = Read (pbn 214) zero_block true ∷ [] }) (read ∷ []) → ⊥
first_at_second honest [] (middle, none, is) = let count = is.count in omega (arith, count)
first_at_second honest (block ∷ other ∷ more) (middle, none, is) = let count = is.count in omega (arith, count)
first_at_second honest (block ∷ []) (middle, none, is) = let at = ap first_at (is.reads.logged refl) in omega (arith, at)
  where
    first_at : List Call → ℕ
    first_at (Read at bytes ok ∷ older) = at.0
    first_at other = 0

-- One of them isn't read: of a device of one slab the first.
one_failed : (honest : Bool) → ReadFailed (trust_of false honest) small seen failed
one_failed honest = ([], omega arith, seen, refl, slab_failed honest)

none_failed : (trust : Trust) → ReadFailed trust small seen seen → ⊥
none_failed trust ([], few, middle, same, fails) = failed_for_nothing trust small 0 (subst (λ (m : Seen). SlabFailed trust small 0 m seen) same fails)
none_failed trust (read ∷ reads, few, middle, older, fails) = omega (arith, few)

failed_behind_last : (trust : Trust) (before now : Seen) → ReadFailed trust (record small { slabs = 0 }) before now → ⊥
failed_behind_last trust before now (reads, few, middle, read, fails) = omega (arith, few)

-- Why slabs aren't read.
slabs_fail_device : (honest : Bool) → SlabsFail (trust_of false honest) small seen failed Device
slabs_fail_device = one_failed

slabs_fail_memory : (trust : Trust) (before now : Seen) → SlabsFail trust small before now Memory
slabs_fail_memory trust before now = tt

slabs_fail_no_device : (trust : Trust) → SlabsFail trust small seen seen Device → ⊥
slabs_fail_no_device = none_failed

module _ (trust : Trust) (before now : Seen) where
  slabs_fail_otherwise : (SlabsFail trust small before now (Super NotAnImage) → ⊥) × (SlabsFail trust small before now (Window 7) → ⊥)
      × (SlabsFail trust small before now (Counter (pbn 86) (record { 0 = 512 })) → ⊥) × (SlabsFail trust small before now (Counts (pbn 86) 2 1) → ⊥)
      × (SlabsFail trust small before now Unclean → ⊥)
  slabs_fail_otherwise = ((λ none. none), (λ none. none), (λ none. none), (λ none. none), (λ none. none))

-- What a slab's reference blocks say: the counter of a data block, behind the commit point of its sector.
abbrev counted : Blocks
counted = (0 ∷ 0 ∷ 0 ∷ 0 ∷ 0 ∷ 0 ∷ 0 ∷ 0 ∷ 5 ∷ 6 ∷ []) ∷ []

first_sector : reference_sector_in counted 0 ≡ 0 ∷ 0 ∷ 0 ∷ 0 ∷ 0 ∷ 0 ∷ 0 ∷ 0 ∷ 5 ∷ 6 ∷ []
first_sector = refl

sector_behind : reference_sector_in counted 1 ≡ []
sector_behind = refl

second_counter : counter_in small counted 1 ≡ 6
unfolding number_at
second_counter = refl

-- An entry is an update of the block of its offset, at its point.
abbrev entry : SlabEntry
entry = record { point = record { 0 = 1536 }; offset = 1 }

is_of_86 : IsOf small 0 entry 86 1536
is_of_86 = (refl, refl)

is_of_85 : IsOf small 0 entry 85 1536 → ⊥
is_of_85 is = let at = is.0 in omega (arith, at)

is_at_1537 : IsOf small 0 entry 86 1537 → ⊥
is_at_1537 is = let point = is.1 in omega (arith, point)

-- All that a slab says: of a slab without blocks nothing.
took_nothing : (updates : List Update) → Took blockless 0 [] (found_lists [] [] updates) (found_lists [] [] (updates ++ []))
took_nothing updates = record {
  of_counters = record { more = []; is = refl; size = refl; each = λ offset below. absurd (omega (arith, below)) };
  of_commits = record { more = []; is = refl; size = refl; each = λ n below. absurd (omega (arith, below)) };
  of_updates = record {
    more = [];
    is = refl;
    each = λ at point. ((λ has. absurd (none_in_nothing _ has)), (λ (kept, is, (slot, below, keeps)). absurd (omega (arith, below))));
  };
}

-- of_counters, of_commits, of_updates
took_counter : (updates : List Update) → Took blockless 0 [] (found_lists [] [] updates) (found_lists (1 ∷ []) [] updates) → ⊥
took_counter updates took =
    let more = ap (λ (ns : List ℕ). length ns) took.of_counters.is in
    let size = took.of_counters.size in omega (arith, more, size)

took_commit : (updates : List Update) → Took blockless 0 [] (found_lists [] [] updates) (found_lists [] (record { 0 = 5 } ∷ []) updates) → ⊥
took_commit updates took =
    let more = ap (λ (ps : List Point). length ps) took.of_commits.is in
    let size = took.of_commits.size in omega (arith, more, size)

took_update : (updates : List Update) → Took blockless 0 [] (found_lists [] [] updates) (found_lists [] [] []) → length updates ≡ 1 → ⊥
took_update updates took one =
    let less = ap (λ (us : List Update). length us) took.of_updates.is in
    omega (arith, less, one, length-append updates took.of_updates.more)

-- What all slabs say: of one that was read the counter is its own, and so is the commit point.
other_counter : (counters : List ℕ) (commits : List Point) (updates : List Update) → IsFound small (counted ∷ []) [] (found_lists (4 ∷ counters) commits updates) → ⊥
unfolding number_at
other_counter counters commits updates found =
    let same : 4 ≡ 5 = found.counters_are (record { slab = 0; offset = 0 }) (omega arith) (omega arith) in omega (arith, same)

other_point : (counters : List ℕ) (commits : List Point) (updates : List Update) → IsFound small (counted ∷ []) [] (found_lists counters (record { 0 = 4 } ∷ commits) updates) → ⊥
unfolding number_at
other_point counters commits updates found = let same : 4 ≡ 0 = found.commits_are 0 0 (omega arith) (omega arith) in omega (arith, same)
