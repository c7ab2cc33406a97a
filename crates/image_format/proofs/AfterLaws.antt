-- What the device has once an image is made.
use Rattle.std.proofs.Common.{ℕ, ◌≡◌, ◌<◌, ◌≤◌, ◌^◌, Bool, true, false, List, [], ◌∷◌, ◌++◌, length, set, refl, sym, ◌∙◌, ap, subst, inl, inr, arith}
use Rattle.std.specs.List.{AllByRecursion}
use Rattle.std.proofs.lemmas.Bool.Decides.{eqb_tells}
use Rattle.std.proofs.lemmas.List.{length-set, get_or-set_same, get_or-set_other}
use Rattle.blk_base.specs.Limits.{IsGeometry}
use Rattle.blk_base.specs.Regions.{needed_blocks}
use Rattle.blk_base.specs.Sectors.{zero_block}
use Rattle.blk_base.specs.declared.geometry.Geometry.{Geometry}
use Rattle.blk_base.proofs.RegionLaws.{inside}
use Rattle.disk_model.specs.declared.call.Call.{Call}
use Rattle.disk_model.specs.declared.call.Call.TheVariants.{Read, Write, Flush}
use Rattle.disk_model.specs.Images.{IsImage, HasOneImage}
use Rattle.disk_model.specs.Log.{Blocks, block_at, contents, settled}
use Rattle.disk_model.specs.OneImages.{HasOneImageIn}
use Rattle.disk_model.proofs.ImageLaws.{settled_are_contents}
use Rattle.disk_model.proofs.LookedLaws.{one_in-flush}
use Rattle.disk_model.proofs.OneImageLaws.{one_image-later, one_image-is_image, one_image-flush}
use Rattle.image_layout.specs.Superblock.{super_block}
use Rattle.image_model.specs.Empty.{IsEmpty, empty_super}
use Rattle.image_format.specs.Calls.{put, clear_calls, region_calls, format_calls}
use Rattle.image_format.specs.Formats.{IsDataKept}
use Rattle.image_format.proofs.StopLaws.{IsRight, all_append, made_at_last, made_keeps_data, made_size, regions_right, super_size, zero_size}

-- The calls before the last flush.
abbrev last_calls : Geometry → List Call
last_calls g = put 0 (super_block (empty_super g)) ∷ Flush true ∷ (region_calls g ++ clear_calls)

-- The blocks that the device has afterwards.

pub after : Blocks → List Call → Blocks
after old [] = old
after old (Write at bytes ok ∷ older) = set (after old older) at.0 bytes
after old (Read _ _ _ ∷ older) = after old older
after old (Flush _ ∷ older) = after old older

-- a call that is no failed write, and writes a whole block of the device
abbrev pub IsDone : ℕ → Call → Type 0
IsDone size (Write at bytes true) = (at.0 < size) × (length bytes ≡ 4096)
IsDone size (Write at bytes false) = ⊥
IsDone size (Read _ _ _) = Unit {0}
IsDone size (Flush _) = Unit {0}

right_done : (g : Geometry) (size : ℕ) → needed_blocks g ≤ size → (calls : List Call) → AllByRecursion (IsRight g) calls → AllByRecursion (IsDone size) calls
right_done g size room [] right = tt
right_done g size room (Write at bytes true ∷ calls) right =
    let below = inside g right.0.0 right.0.1 in
    let stands = right.0.3 in
    ((omega (arith, below, stands, room), ap length right.0.4 ∙ made_size g right.0.0), right_done g size room calls right.1)
right_done g size room (Write at bytes false ∷ calls) right = absurd right.0
right_done g size room (Read _ _ _ ∷ calls) right = absurd right.0
right_done g size room (Flush _ ∷ calls) right = absurd right.0

after_size : (old : Blocks) (calls : List Call) → length (after old calls) ≡ length old
unfolding after
after_size old [] = refl
after_size old (Write at bytes ok ∷ older) = length-set (after old older) at.0 bytes ∙ after_size old older
after_size old (Read _ _ _ ∷ older) = after_size old older
after_size old (Flush _ ∷ older) = after_size old older

module _ (old : Blocks) (whole : (b : ℕ) → b < length old → length (block_at old b) ≡ 4096) where
  after_whole : (calls : List Call) → AllByRecursion (IsDone (length old)) calls → (b : ℕ) → b < length old → length (block_at (after old calls) b) ≡ 4096
  unfolding after
  after_whole [] done b below = whole b below
  after_whole (Write at bytes true ∷ older) done b below = elim (eqb_tells at.0 b) [
    | inl same ↦ let size = after_size old older in let here = done.0.0 in
        rw (← same.1, get_or-set_same (after old older) at.0 bytes zero_block (omega (arith, size, here))) done.0.1
    | inr other ↦ rw (get_or-set_other (after old older) at.0 b bytes zero_block (λ e. other.1 (sym e))) (after_whole older done.1 b below)
  ]
  after_whole (Write at bytes false ∷ older) done b below = absurd done.0
  after_whole (Read _ _ _ ∷ older) done b below = after_whole older done.1 b below
  after_whole (Flush _ ∷ older) done b below = after_whole older done.1 b below

  module _ (opening : Blocks) (first : List Call) where
    after_settles : (calls : List Call) → AllByRecursion (IsDone (length old)) calls → (b : ℕ) → AllByRecursion (λ content. content ≡ block_at old b) (contents opening first b)
        → AllByRecursion (λ content. content ≡ block_at (after old calls) b) (settled opening (calls ++ first) b)
    unfolding after
    after_settles [] done b only = settled_are_contents (λ content. content ≡ block_at old b) opening first b only
    after_settles (Write at bytes true ∷ older) done b only = elim (eqb_tells at.0 b) [
      | inl same ↦ let size = after_size old older in let here = done.0.0 in
          rw (same.0, ← same.1, get_or-set_same (after old older) at.0 bytes zero_block (omega (arith, size, here))) (refl, tt)
      | inr other ↦ rw (other.0, get_or-set_other (after old older) at.0 b bytes zero_block (λ e. other.1 (sym e))) (after_settles older done.1 b only)
    ]
    after_settles (Write at bytes false ∷ older) done b only = absurd done.0
    after_settles (Read _ _ _ ∷ older) done b only = after_settles older done.1 b only
    after_settles (Flush _ ∷ older) done b only = after_settles older done.1 b only

    -- nothing is pending after a flush in the blocks that are looked at, where nothing was
    pub after_flush_in : (looked : ℕ → Bool) (calls : List Call) → AllByRecursion (IsDone (length old)) calls → HasOneImageIn looked opening first old
        → HasOneImageIn looked opening (Flush true ∷ (calls ++ first)) (after old calls)
    after_flush_in looked calls done one =
        one_in-flush looked opening (calls ++ first) (after old calls) (after_size old calls ∙ one.size)
        (λ b below. after_whole calls done b (let size = one.size in omega (arith, size, below))) (λ b below here. after_settles calls done b (one.only b below here))

  module _ (opening : Blocks) (first : List Call) (one : HasOneImage opening first old) where
    -- nothing is pending after a flush
    pub after_flush : (calls : List Call) → AllByRecursion (IsDone (length old)) calls → HasOneImage opening (Flush true ∷ (calls ++ first)) (after old calls)
    after_flush calls done =
        one_image-flush opening (calls ++ first) (after old calls) (after_size old calls ∙ one.size)
        (λ b below. after_whole calls done b (let size = one.size in omega (arith, size, below)))
        (λ b below. after_settles opening first calls done b (one.only b below))

    module _ (g : Geometry) (sizes : IsGeometry g) (named : g.nonce < 2 ^ 64) (room : needed_blocks g ≤ length old) where
      -- the device has one image, which is empty
      last_done : AllByRecursion (IsDone (length old)) (last_calls g)
      last_done =
          let some : 0 < length old = omega (arith, room) in
          let regions = right_done g (length old) room (region_calls g) (regions_right g sizes) in
          ((some, super_size (empty_super g)), (tt, all_append (IsDone (length old)) (region_calls g) clear_calls regions (tt, ((some, zero_size), tt))))

      pub made_is : (now : List Call) → now ≡ format_calls g ++ first → (image : Blocks) × HasOneImage opening now image × IsEmpty g image × IsDataKept g old image
      made_is now is =
          let image = after old (last_calls g) in
          let only : HasOneImage opening (format_calls g ++ first) image = after_flush (last_calls g) last_done in
          let same : IsImage old (format_calls g) image = one_image-later opening first (format_calls g) old image one (one_image-is_image opening (format_calls g ++ first) image only) in
          let some : 0 < length old = omega (arith, room) in
          (image, subst (λ (log : List Call). HasOneImage opening log image) (sym is) only, made_at_last old whole some g sizes named room image same, made_keeps_data old whole some g sizes named room image same)
