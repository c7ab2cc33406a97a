-- What a forced rebuild needs, keeps and writes: for each clause a case that it accepts, and one that it refuses.
use Rattle.std.proofs.Common.{ℕ, ◌≡◌, ◌+◌, ◌*◌, ◌<◌, ◌≤◌, ◌^◌, ◌++◌, true, false, IsTrue, List, [], ◌∷◌, All, length, replicate, get_or, take, slice_index, Some, Ok, refl, sym, ◌∙◌, ap, subst, arith}
use Rattle.blk_base.specs.Points.{point_of}
use Rattle.blk_base.specs.Regions.{DataBlock, ReferenceBlock, Root, SlabJournalSlot, block_of, data_blocks}
use Rattle.blk_base.specs.Sectors.{sector, zero_block}
use Rattle.blk_base.specs.declared.geometry.Geometry.{Geometry}
use Rattle.blk_base.specs.declared.geometry.Super.{Super}
use Rattle.blk_base.specs.declared.journal_entry.Entry.{Entry}
use Rattle.blk_base.specs.declared.layout.DataPlace.{DataPlace}
use Rattle.blk_base.specs.declared.place.Mapping.TheVariants.{Zero, At}
use Rattle.blk_base.specs.declared.place.PageId.{PageId}
use Rattle.blk_base.specs.declared.place.Pbn.{Pbn}
use Rattle.blk_base.specs.declared.point.Half.TheVariants.{Increment}
use Rattle.blk_base.specs.Forms.{page, pbn}
use Rattle.blk_base.proofs.Example.{root}
use Rattle.byte_fields.specs.Fields.{number_at}
use Rattle.count_updates.specs.Numbers.{block_number}
use Rattle.disk_model.specs.declared.call.Call.TheVariants.{Flush}
use Rattle.disk_model.specs.Log.{Blocks, block_at}
use Rattle.image_format.specs.Calls.{put}
use Rattle.image_format.proofs.StopLaws.{zero_size}
use Rattle.image_layout.specs.Opened.{super_of_image}
use Rattle.image_layout.specs.Superblock.{super_block}
use Rattle.image_layout.specs.Values.{journal_of}
use Rattle.image_model.proofs.CountLaws.{one_number}
use Rattle.image_model.proofs.Example.{small}
use Rattle.image_model.proofs.FaultExample.{zeros_unheaded}
use Rattle.image_model.proofs.MapExample.{image as mapped, remap, said, with_root}
use Rattle.image_model.specs.Counts.{HasMappings, block_of_data}
use Rattle.image_model.specs.Looked.{is_looked_at}
use Rattle.image_model.specs.Maps.{Image, page_at}
use Rattle.image_model.specs.Sound.{IsDataPlace, IsSound}
use Rattle.journal_codec.specs.Grammar.{IsSector}
use Rattle.force_rebuild.proofs.AcceptLaws.{sound_is_rebuildable}
use Rattle.force_rebuild.proofs.OtherLaws.{no_slab_there}
use Rattle.force_rebuild.proofs.PutLaws.{old_is_part}
use Rattle.force_rebuild.specs.Calls.{ArePagePuts, closing_calls, slab_calls, slabs_below}
use Rattle.force_rebuild.specs.ForcedRebuild.{IsToRebuild, unclosed}
use Rattle.force_rebuild.specs.Kept.{AreOthersKept, IsKept, IsRebuilt, IsSlabBlock, MapTheSame}
use Rattle.force_rebuild.specs.Rebuildable.{IsCountable, IsRebuildable, rebuildable_image}
use Rattle.force_rebuild.specs.Written.{AreMappings, AreRewritten, AreUnderway, commit_behind, counted_block, counted_sector, counters_of_slab, slab_block}

-- Images that can be rebuilt. A sound one can, where its journal isn't at its end. What an image is refused for can't: that is
-- shown for each fault (`AcceptLaws`).
sound_can : (blocks : Blocks) (sound : IsSound blocks) → sound.last ≡ 7 → IsRebuildable blocks
sound_can blocks sound last = sound_is_rebuildable blocks sound (omega (arith, last))

no_image : IsRebuildable [] → ⊥
no_image is = let accepted = is.accepted in absurd (cc accepted)

at_its_end : (blocks : Blocks) (is : IsRebuildable blocks) → is.last + 2 ≡ 2 ^ 54 → ⊥
at_its_end blocks is last = let few = is.sequences in omega (arith, few, last)

-- timely: no sector of the journal has a sequence two past the last one
too_late : (blocks : Blocks) (is : IsRebuildable blocks) (head : ℕ) (entries : List Entry) → 3 < is.head.geometry.journal
    → IsSector is.head.geometry.nonce 0 (sector 0 (get_or (journal_of is.head.geometry blocks) 3 zero_block)) (is.last + 2) head entries → ⊥
too_late blocks is head entries inside sector_is = let early = is.timely 3 0 (is.last + 2) head entries inside (omega arith) sector_is in omega (arith, early)

-- a data block that is mapped 254 times can be counted, and one that is mapped 255 times can't
often : (image : Image) (place : DataPlace) → HasMappings image (block_of_data image.geometry place) 254 → IsCountable image place
often image place has = (254, has, omega arith)

too_often : (image : Image) (place : DataPlace) → HasMappings image (block_of_data image.geometry place) 255 → IsCountable image place → ⊥
too_often image place has is =
    let one = one_number image (block_of_data image.geometry place) 255 is.0 has is.1 in
    let most = is.2 in
    omega (arith, one, most)

-- to rebuild it one sequence more is needed
one_more : (blocks : Blocks) (to : IsToRebuild blocks) → to.is.last + 3 ≡ 2 ^ 54 → ⊥
one_more blocks to last = let few = to.more in omega (arith, few, last)

-- Two images map the same. An image does as itself.
same_as_itself : (image : Image) → MapTheSame image image
same_as_itself image = record { geometry = refl; map = record { pages = λ page. refl; mappings = λ address. refl }; values = λ address. refl }

-- geometry: other sizes; map: address 5 has another mapping; values: block 86 has another byte
other_sizes : MapTheSame (mapped []) (record (mapped []) { geometry = record small { logical = 999 } }) → ⊥
other_sizes same = let logical = ap (λ (g : Geometry). g.logical) same.geometry in omega (arith, logical)

other_mapping : MapTheSame (mapped []) (mapped (remap 5 Zero ∷ [])) → ⊥
unfolding number_at
other_mapping same = let five : At (pbn 86) ≡ Zero = same.map.mappings 5 in absurd (cc five)

other_value : MapTheSame (mapped [])
    (record (mapped []) { blocks = replicate 9 [] ++ said 0 1 85 ∷ said 0 1 87 ∷ replicate 74 [] ++ said 5 1 86 ∷ (8 ∷ 7 ∷ []) ∷ said 688 1 86 ∷ [] }) → ⊥
unfolding number_at
other_value same = let five : 8 ∷ 7 ∷ [] ≡ 7 ∷ 7 ∷ [] = same.values 5 in absurd (cc five)

-- Blocks of a slab: the counters and the journal are, data blocks and roots aren't.
counters_are : IsSlabBlock small 149
counters_are = (ReferenceBlock 0 0, (omega arith, omega arith), tt, refl)

journal_is : IsSlabBlock small 153
journal_is = (SlabJournalSlot 0 3, (omega arith, omega arith), tt, refl)

data_is_none : IsSlabBlock small 85 → ⊥
data_is_none is = no_slab_there small (DataBlock 0 0) (omega arith, omega arith) (λ none. none) is

root_is_none : IsSlabBlock small 9 → ⊥
root_is_none is = no_slab_there small (Root 0) (omega arith) (λ none. none) is

-- Other blocks: they are kept by themselves, and not where one of them has another byte.
others_kept : (image : Image) → AreOthersKept image image.blocks
others_kept image b behind below looked no_page no_slab = refl

other_lost : (image : Image) (blocks : Blocks) (b : ℕ) → 1 ≤ b → b < length image.blocks → IsTrue (is_looked_at image.geometry b) → ((page : PageId) (at : Pbn) → page_at image page ≡ Some at → at.0 ≡ b → ⊥)
    → (IsSlabBlock image.geometry b → ⊥) → block_at image.blocks b ≡ [] → block_at blocks b ≡ 1 ∷ [] → AreOthersKept image blocks → ⊥
other_lost image blocks b behind below looked no_page no_slab was now kept =
    let same = kept b behind below looked (λ (page, at, there, is). no_page page at there is) no_slab in absurd (cc (same, was, now))

-- Kept: an image by itself, and none by blocks without a superblock, or of other sizes.
kept_self : (blocks : Blocks) (is : IsRebuildable blocks) → IsKept (rebuildable_image blocks is) blocks
kept_self blocks is = record { rebuildable = is; same = same_as_itself (rebuildable_image blocks is); others = others_kept (rebuildable_image blocks is) }

kept_by_nothing : (image : Image) → IsKept image [] → ⊥
kept_by_nothing image kept = let accepted = kept.rebuildable.accepted in absurd (cc accepted)

kept_by_another : (blocks : Blocks) (head : Super) (image : Image) → super_of_image blocks ≡ Ok head → image.geometry.logical + 1 ≡ head.geometry.logical → IsKept image blocks → ⊥
kept_by_another blocks head image accepted more kept =
    let accepted_too = kept.rebuildable.accepted in
    let same_head : kept.rebuildable.head ≡ head = cc (accepted, accepted_too) in
    let here = ap (λ (h : Super). h.geometry.logical) same_head in
    let there = ap (λ (g : Geometry). g.logical) kept.same.geometry in
    omega (arith, here, there, more)

-- Rebuilt: not where the superblock isn't that of a closed image, or the next session begins one behind the last sequence.
not_closed : (blocks : Blocks) (head : Super) (image : Image) → super_of_image blocks ≡ Ok head → head.clean ≡ false → IsRebuilt image 7 blocks → ⊥
not_closed blocks head image accepted unclosed is =
    let accepted_too = is.sound.opens.accepted in
    let same_head : is.sound.head ≡ head = cc (accepted, accepted_too) in
    let clean = ap (λ (h : Super). h.clean) is.closed in
    let unclean = ap (λ (h : Super). h.clean) same_head in
    absurd (cc (clean, unclean, unclosed))

one_behind : (blocks : Blocks) (head : Super) (image : Image) → super_of_image blocks ≡ Ok head → head.start ≡ 8 → IsRebuilt image 7 blocks → ⊥
one_behind blocks head image accepted starts is =
    let accepted_too = is.sound.opens.accepted in
    let same_head : is.sound.head ≡ head = cc (accepted, accepted_too) in
    let start = ap (λ (h : Super). h.start) is.closed in
    let start_too = ap (λ (h : Super). h.start) same_head in
    omega (arith, start, start_too, starts)

-- it is looked at as one that wasn't closed
unclosed_head : unclosed (record { geometry = small; clean = true; start = 9 }) ≡ record { geometry = small; clean = false; start = 9 }
unclosed_head = refl

-- What is written.

-- the commit point stands behind each half of the last block's entries, and before the next block
commit_is : commit_behind 7 ≡ 3967
commit_is = refl

commit_before_next : commit_behind 7 + 1 ≤ point_of 8 0 Increment
commit_before_next = omega arith

-- of two slabs of two blocks each
abbrev two : Geometry
two = record small { slabs = 2; slab_blocks = 2 }

second_slab : counters_of_slab two (1 ∷ 2 ∷ 3 ∷ 4 ∷ []) 1 ≡ 3 ∷ 4 ∷ []
second_slab = refl

second_counters : take 3 (counted_sector two 5 (3 ∷ 4 ∷ []) 0).counters ≡ 3 ∷ 4 ∷ 0 ∷ []
second_counters = refl

counters_stand : slab_block two 5 (1 ∷ 2 ∷ 3 ∷ 4 ∷ []) (ReferenceBlock 1 0) ≡ counted_block two 5 (3 ∷ 4 ∷ []) 0
counters_stand = refl

journal_stands : slab_block two 5 (1 ∷ 2 ∷ 3 ∷ 4 ∷ []) (SlabJournalSlot 1 0) ≡ zero_block
journal_stands = refl

-- The numbers of mappings. size: none of a slab of 64; each: block 85 has one, and 0 is said; limit: 255
too_few : AreMappings (mapped []) [] → ⊥
too_few are = let size = are.size in omega (arith, size)

one_too_few : (image : Image) → image.geometry ≡ small → HasMappings image (block_of_data image.geometry (record { slab = 0; offset = 0 })) 1 → AreMappings image (replicate 64 0) → ⊥
one_too_few image same has are =
    let slabs = ap (λ (g : Geometry). g.slabs) same in
    let width = ap (λ (g : Geometry). g.slab_blocks) same in
    let place : DataPlace = record { slab = 0; offset = 0 } in
    let is = are.each place (omega (arith, slabs), omega (arith, width)) in
    let one = one_number image (block_of_data image.geometry place) 1 (slice_index (replicate 64 0) (0 * image.geometry.slab_blocks + 0)) has is in
    let zero_is : slice_index (replicate 64 0) 0 ≡ 0 = refl in
    let at : 0 * image.geometry.slab_blocks + 0 ≡ 0 = omega arith in
    let there = ap (λ (n : ℕ). slice_index (replicate 64 0) n) at in
    omega (arith, one, there, zero_is)

past_the_limit : (image : Image) (others : List ℕ) → AreMappings image (255 ∷ others) → ⊥
past_the_limit image others are = let most = are.limit 0 0 (omega arith) in omega (arith, most)

-- and it is accepted where these are they
all_there : (image : Image) (counters : List ℕ) → length counters ≡ data_blocks image.geometry
    → ((place : DataPlace) → IsDataPlace image.geometry place → HasMappings image (block_of_data image.geometry place) (slice_index counters (block_number image.geometry place)))
    → All (λ count. count ≤ 254) counters → AreMappings image counters
all_there image counters size each limit = record { size = size; each = each; limit = limit }

-- While it is rebuilt: an image that can be is, by itself. size: one block less; head: another superblock; pages: zeros are none
underway_itself : (blocks : Blocks) (is : IsRebuildable blocks) (named : is.head.geometry.nonce < 2 ^ 64) → AreUnderway (rebuildable_image blocks is) blocks
underway_itself blocks is named = record {
  size = refl;
  head = refl;
  pages = λ page at there. (old_is_part blocks is named at.0).page page at there refl;
  others = others_kept (rebuildable_image blocks is);
}

underway_short : (image : Image) (block : List ℕ) (blocks : Blocks) → image.blocks ≡ block ∷ blocks → AreUnderway image blocks → ⊥
underway_short image block blocks are underway = let size = underway.size in let more = ap (λ (bs : Blocks). length bs) are in omega (arith, size, more)

underway_other_head : (image : Image) (blocks : Blocks) → sector 0 (block_at image.blocks 0) ≡ [] → sector 0 (block_at blocks 0) ≡ 1 ∷ [] → AreUnderway image blocks → ⊥
underway_other_head image blocks was now underway = let same = underway.head in absurd (cc (same, was, now))

underway_unheaded : AreUnderway (with_root zero_block []) (with_root zero_block []).blocks → ⊥
underway_unheaded underway = zeros_unheaded (underway.pages root (pbn 9) refl).headed

-- Once all is written: size and pages as before; slabs: an entry is left in a journal
rewritten_short : (image : Image) (commit : ℕ) (counters block : List ℕ) (blocks : Blocks) → image.blocks ≡ block ∷ blocks → AreRewritten image commit counters blocks → ⊥
rewritten_short image commit counters block blocks are full = let size = full.size in let more = ap (λ (bs : Blocks). length bs) are in omega (arith, size, more)

rewritten_unheaded : AreRewritten (with_root zero_block []) 7 [] (with_root zero_block []).blocks → ⊥
rewritten_unheaded full = zeros_unheaded (full.pages root (pbn 9) refl).headed

journal_left : (image : Image) (commit : ℕ) (counters : List ℕ) (blocks : Blocks) → image.geometry ≡ small → block_at blocks 150 ≡ 1 ∷ [] → AreRewritten image commit counters blocks → ⊥
journal_left image commit counters blocks same now full =
    let there : block_at blocks (block_of small (SlabJournalSlot 0 0)) ≡ zero_block =
    subst (λ (g : Geometry). block_at blocks (block_of g (SlabJournalSlot 0 0)) ≡ zero_block) same
    (full.slabs (SlabJournalSlot 0 0) (subst (λ (g : Geometry). (0 < g.slabs) × (0 < g.slab_journal)) (sym same) (omega arith, omega arith)) tt) in
    let bytes : List ℕ = 1 ∷ [] in
    let size : length bytes ≡ 4096 = ap length (sym now ∙ there) ∙ zero_size in
    omega (arith, size)

-- Calls.

-- each: a flush among them; all: the window puts zeros into slot 5 of the leaf at 85, and it isn't written
puts_with_flush : (image : Image) → ArePagePuts image (Flush true ∷ []) → ⊥
puts_with_flush image are = are.each.0

page_left_out : ArePagePuts (mapped (remap 5 Zero ∷ [])) [] → ⊥
unfolding number_at
page_left_out are = are.all (page 0 0 0) (pbn 85) 5 Zero refl (omega arith) refl

nothing_put : ArePagePuts (mapped []) []
nothing_put = record { each = tt; all = λ which at slot mapping there below put. absurd (cc put) }

-- of one slab with one block in its journal: the journal first, then the counters; and all before the superblock, with a
-- flush between
abbrev tiny : Geometry
tiny = record small { slab_blocks = 2; slab_journal = 1 }

slab_is : slab_calls tiny 5 (3 ∷ 4 ∷ []) 0 ≡ put 87 (counted_block tiny 5 (3 ∷ 4 ∷ []) 0) ∷ put 88 zero_block ∷ []
slab_is = refl

closing_is : closing_calls tiny 7 (3 ∷ 4 ∷ [])
    ≡ Flush true ∷ put 0 (super_block (record { geometry = tiny; clean = true; start = 9 })) ∷ Flush true ∷ put 87 (counted_block tiny 3967 (3 ∷ 4 ∷ []) 0) ∷ put 88 zero_block ∷ []
unfolding slabs_below
closing_is = refl
