-- What an image keeps that grows, and the calls that are made: for each clause a case that it accepts, and one that it refuses.
use Rattle.std.proofs.Common.{ℕ, ◌≡◌, ◌<◌, ◌≤◌, ◌^◌, true, false, IsTrue, [], ◌∷◌, ◌++◌, length, refl, ap, arith}
use Rattle.blk_base.specs.Regions.{DataBlock, ReferenceBlock, Root, SlabJournalSlot, needed_blocks}
use Rattle.blk_base.specs.declared.geometry.Geometry.{Geometry}
use Rattle.blk_base.specs.declared.geometry.Super.{Super}
use Rattle.blk_base.specs.declared.place.Mapping.TheVariants.{At}
use Rattle.disk_model.specs.declared.call.Call.TheVariants.{Flush}
use Rattle.disk_model.specs.Log.{Blocks, block_at}
use Rattle.image_format.specs.Calls.{put, slab_calls}
use Rattle.image_layout.specs.Superblock.{super_block}
use Rattle.image_model.proofs.Example.{small}
use Rattle.image_model.specs.Looked.{is_looked_at}
use Rattle.image_model.specs.Maps.{Image, mapping_of}
use Rattle.image_model.specs.Sound.{IsSound}
use Rattle.grow_image.specs.Calls.{grow_calls, more_slabs, new_slabs}
use Rattle.grow_image.specs.Kept.{AreOldKept, AreUnmapped, IsGrown, IsToGrow}
use Rattle.grow_image.specs.Sizes.{IsMore, IsNewPlace, grown_sizes, grown_super}

-- The sizes: of 154 blocks, and with two slabs of 223.
two_slabs : needed_blocks (grown_sizes small 2000 2) ≡ 223
two_slabs = refl

others_stay : grown_sizes small 2000 2 ≡ record small { logical = 2000; slabs = 2 }
others_stay = refl

super_closed : (grown_super (record { geometry = small; clean = false; start = 9 }) 2000 2).clean ≡ true
super_closed = refl

super_start : (grown_super (record { geometry = small; clean = true; start = 9 }) 2000 2).start ≡ 9
super_start = refl

-- more: as many are enough; fewer addresses, or fewer slabs, aren't
as_many : IsMore small small.logical 1
as_many = record { logical_more = omega arith; slabs_more = omega arith }

fewer_addresses : IsMore small 999 1 → ⊥
fewer_addresses more = let most = more.logical_more in omega (arith, most)

fewer_slabs : IsMore small 2000 0 → ⊥
fewer_slabs more = let most = more.slabs_more in omega (arith, most)

-- new places: those of the second slab; not those of the first one, and no data
new_counters : IsNewPlace small (ReferenceBlock 1 0)
new_counters = omega arith

new_journal : IsNewPlace small (SlabJournalSlot 1 3)
new_journal = omega arith

old_counters : IsNewPlace small (ReferenceBlock 0 0) → ⊥
old_counters new = omega (arith, new)

old_journal : IsNewPlace small (SlabJournalSlot 0 0) → ⊥
old_journal new = omega (arith, new)

no_data : IsNewPlace small (DataBlock 1 0) → ⊥
no_data new = new

no_root : IsNewPlace small (Root 0) → ⊥
no_root new = new

-- unmapped: where no address is new, and not where the first new one is mapped
none_new : (image : Image) → AreUnmapped image image.geometry.logical
none_new image address behind below = absurd (omega (arith, behind, below))

first_mapped : (image : Image) (logical : ℕ) → image.geometry.logical < logical → mapping_of image image.geometry.logical ≡ At (record { 0 = 86 }) → AreUnmapped image logical → ⊥
first_mapped image logical more mapped none = let unmapped = none image.geometry.logical (omega arith) more in absurd (cc (mapped, unmapped))

-- the old blocks: they are kept by themselves, and not where one of them has another byte
kept_self : (image : Image) → AreOldKept image image.blocks
kept_self image b behind below looked = refl

other_byte : (image : Image) (blocks : Blocks) (b : ℕ) → 1 ≤ b → b < needed_blocks image.geometry → IsTrue (is_looked_at image.geometry b)
    → block_at image.blocks b ≡ [] → block_at blocks b ≡ 1 ∷ [] → AreOldKept image blocks → ⊥
other_byte image blocks b behind below looked was now kept = let same = kept b behind below looked in absurd (cc (same, was, now))

-- an image to grow: closed; its numbers fit; the larger one fits the device
not_closed : (base : Blocks) (sound : IsSound base) → sound.head.clean ≡ false → IsToGrow base sound 2000 2 → ⊥
not_closed base sound unclean to = let clean = to.clean in absurd (cc (clean, unclean))

past_the_start : (base : Blocks) (sound : IsSound base) → sound.head.start ≡ 2 ^ 54 → IsToGrow base sound 2000 2 → ⊥
past_the_start base sound start to = let early = to.early.1 in omega (arith, early, start)

too_short : (base : Blocks) (sound : IsSound base) → sound.head.geometry ≡ small → length base ≡ 222 → IsToGrow base sound 2000 2 → ⊥
too_short base sound same size to =
    let fits = to.fits in
    let needed : needed_blocks (grown_sizes sound.head.geometry 2000 2) ≡ 223 = ap (λ (g : Geometry). needed_blocks (grown_sizes g 2000 2)) same in
    omega (arith, fits, needed, size)

-- it has grown: not where the superblock has other sizes
other_sizes : (base blocks : Blocks) (sound : IsSound base) (grown : IsGrown base sound 2000 2 blocks) → grown.grown.head.geometry.logical ≡ 1999 → ⊥
other_sizes base blocks sound grown logical = let same = ap (λ (h : Super). h.geometry.logical) grown.head in omega (arith, same, logical)

still_open : (base blocks : Blocks) (sound : IsSound base) (grown : IsGrown base sound 2000 2 blocks) → grown.grown.head.clean ≡ false → ⊥
still_open base blocks sound grown unclean = let same = ap (λ (h : Super). h.clean) grown.head in absurd (cc (same, unclean))

-- The calls: of one more slab, and of none. The superblock comes behind a flush.
one_more : new_slabs (grown_sizes small 2000 2) 1 1 ≡ slab_calls (grown_sizes small 2000 2) 1 ++ []
unfolding new_slabs
one_more = refl

none_more : new_slabs (grown_sizes small 2000 1) 1 0 ≡ []
unfolding new_slabs
none_more = refl

all_calls : (head : Super) → head.geometry ≡ small → grow_calls head 2000 1
    ≡ Flush true ∷ put 0 (super_block (grown_super head 2000 1)) ∷ Flush true ∷ more_slabs head 2000 1
all_calls head same = refl
