-- What is promised of opening an image: for each clause a small case that it accepts, and one that breaks it and is refused.
use Rattle.std.proofs.Common.{ℕ, ◌≡◌, ◌+◌, ◌*◌, ◌≤◌, true, false, List, [], ◌∷◌, All, length, Ok, Err, refl, ap, subst, arith}
use Rattle.blk_base.specs.Counters.{limit_of}
use Rattle.blk_base.specs.Sectors.{zero_block}
use Rattle.blk_base.specs.declared.geometry.Super.{Super as Superblock}
use Rattle.blk_base.specs.declared.layout.DataPlace.{DataPlace}
use Rattle.blk_base.specs.declared.opened.Opened.{Opened}
use Rattle.blk_base.specs.declared.place.Mapping.TheVariants.{At}
use Rattle.blk_base.specs.declared.place.Pbn.{Pbn}
use Rattle.blk_base.specs.Forms.{pbn}
use Rattle.blk_base.proofs.Example.{root}
use Rattle.disk_model.specs.Log.{Blocks}
use Rattle.disk_model.specs.Trust.{trust_of}
use Rattle.image_layout.specs.Opened.{super_of_image}
use Rattle.image_model.proofs.CountLaws.{one_number, one_stored}
use Rattle.image_model.proofs.Example.{small}
use Rattle.image_model.proofs.MapExample.{bad_head, with_root}
use Rattle.image_model.specs.Counts.{HasMappings, Stores, block_of_data}
use Rattle.image_model.specs.Maps.{Image, IsTreePage, mapping_of}
use Rattle.image_model.specs.Sound.{IsDataPlace}
use Rattle.image_model.specs.declared.fault.ImageFault.TheVariants.{Counts, Device, Unclean, Memory}
use Rattle.rebuild.proofs.Rows.{call_failed, called_after, flushed, last_is_failed, last_is_not, none_flushed, seen}
use Rattle.rebuild.specs.Openings.{CheckFails, Fits, HasWrongCount, IsOpening, IsOpeningRefusal, IsRight, OpenWithFails, OpensRight}
use Rattle.audit.specs.declared.forms.Contents.{Contents}

-- An image is right: its pages can be read, none is shared, each count is true.
bad_page : (head : Superblock) (opened : Opened) → IsRight (with_root zero_block []) head opened → ⊥
bad_page head opened is = bad_head (is.pages root (pbn 9) refl)

module _ (image : Image) (head : Superblock) (opened : Opened) where
  shared : (at : Pbn) (address : ℕ) → IsTreePage image at → mapping_of image address ≡ At at → IsRight image head opened → ⊥
  shared at address page maps is = is.unshared at address page maps

  untrue : (place : DataPlace) (count : ℕ) → IsDataPlace image.geometry place → Stores image place (Ok count) → HasMappings image (block_of_data image.geometry place) (count + 1)
      → IsRight image head opened → ⊥
  untrue place count inside stores maps is =
      let told = is.counts place inside in
      let same = one_stored image place (Ok told.0) (Ok count) told.1 stores in
      let stored : told.0 ≡ count = cc same in
      let mapped = one_number image (block_of_data image.geometry place) told.0 (count + 1) told.2 maps in
      omega (arith, stored, mapped)

  other_start : opened.head.start ≡ head.start + 1 → IsRight image head opened → ⊥
  other_start next is = let same = ap (λ (h : Superblock). h.start) is.start.head_is in omega (arith, next, same)

  -- a wrong count isn't the number of mappings
  wrong_is_wrong : (at : Pbn) (count : ℕ) → HasWrongCount image at count count → ⊥
  wrong_is_wrong at count is = is.wrong.differ refl

  wrong_page : (at : Pbn) (stored mapped : ℕ) → HasWrongCount (with_root zero_block []) at stored mapped → ⊥
  wrong_page at stored mapped is = bad_head (is.pages root (pbn 9) refl)

-- What it has fits its sizes: 64 counters, none above the limit, and one commit point.
module _ (opened : Opened) (same : opened.head.geometry ≡ small) where
  fewer_counters : opened.counters.items ≡ [] → Fits opened → ⊥
  fewer_counters none fits = let size = fits.counters in let empty = ap (λ (ns : List ℕ). length ns) none in let slabs = ap (λ (g : _). g.slabs * g.slab_blocks) same in omega (arith, size, empty, slabs)

  past_limit : (others : List ℕ) → opened.counters.items ≡ 255 ∷ others → Fits opened → ⊥
  past_limit others first fits =
      let all = subst (λ (ns : List ℕ). All (λ (n : ℕ). n ≤ limit_of opened.head.geometry) ns) first fits.limit in
      let within = all 0 0 (omega arith) in omega (arith, within)

  other_height : opened.head.geometry.height ≡ 4 → Fits opened → ⊥
  other_height high fits = let most = fits.sizes.height.1 in omega (arith, high, most)

-- The check by map and counts has two answers.
checked_memory : (contents : Contents) → CheckFails small contents Memory
checked_memory contents = tt

checked_device : (contents : Contents) → CheckFails small contents Device → ⊥
checked_device contents fails = fails

-- Answers by the image: an unclean one isn't opened, and is refused for that alone.
module _ (blocks : Blocks) (head : Superblock) (accepted : super_of_image blocks ≡ Ok head) where
  same_superblock : (other : Superblock) → super_of_image blocks ≡ Ok other → other ≡ head
  same_superblock other is = cc (is, accepted)

  not_both : (other : Superblock) → super_of_image blocks ≡ Ok other → other.clean ≡ true → head.clean ≡ false → ⊥
  not_both other is clean unclean = let same = ap (λ (h : Superblock). h.clean) (same_superblock other is) in absurd (cc (same, clean, unclean))

  unclean_isnt_opened : (opened : Opened) → head.clean ≡ false → OpensRight blocks opened → ⊥
  unclean_isnt_opened opened unclean (other, last, window, opens, clean, right) = not_both other opens.accepted clean unclean

  unclean_is_refused : head.clean ≡ false → IsOpeningRefusal blocks seen seen Unclean
  unclean_is_refused unclean = (head, accepted, unclean)

  clean_isnt_unclean : head.clean ≡ true → IsOpeningRefusal blocks seen seen Unclean → ⊥
  clean_isnt_unclean clean (other, is, unclean) = let same = ap (λ (h : Superblock). h.clean) (same_superblock other is) in absurd (cc (same, clean, unclean))

  unclean_has_no_count : (at : Pbn) (stored mapped : ℕ) → head.clean ≡ false → IsOpeningRefusal blocks seen seen (Counts at stored mapped) → ⊥
  unclean_has_no_count at stored mapped unclean ((other, is, clean), fault) = not_both other is clean unclean

  -- want of memory comes for a closed image alone
  clean_has_memory : head.clean ≡ true → IsOpeningRefusal blocks seen seen Memory
  clean_has_memory clean = (head, accepted, clean)

  unclean_has_no_memory : head.clean ≡ false → IsOpeningRefusal blocks seen seen Memory → ⊥
  unclean_has_no_memory unclean (other, is, clean) = not_both other is clean unclean

-- the failure of the last call is its cause
a_call_failed : (blocks : Blocks) → IsOpeningRefusal blocks seen call_failed Device
a_call_failed blocks = last_is_failed true

no_call_failed : (blocks : Blocks) → IsOpeningRefusal blocks seen seen Device → ⊥
no_call_failed blocks failed = let rose = failed.rose in omega (arith, rose)

another_was_made : (blocks : Blocks) → IsOpeningRefusal blocks seen called_after Device → ⊥
another_was_made blocks failed = last_is_not failed

-- nothing is written, whatever the answer is
written_and_refused : IsOpening (trust_of true true) seen flushed (Err Memory) → ⊥
written_and_refused is = let since = is.untouched.reads refl in none_flushed since.0 since.1 since.2

-- `Unclean` comes for what the superblock says, and not from a fault behind it
unclean_behind : (head : Superblock) (window : _) → OpenWithFails (trust_of true true) head window seen seen Unclean → ⊥
unclean_behind head window fails = fails
