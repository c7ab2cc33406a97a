-- What the reads of an image show of the one image of an honest device, of which the index isn't read.
use Rattle.std.proofs.Common.{ℕ, ◌≡◌, ◌+◌, ◌-◌, ◌<◌, ◌≤◌, IsTrue, List, [], ◌∷◌, length, reverse, sym, ◌∙◌, ap, subst, inl, inr, arith, Ok}
use Rattle.std.proofs.lemmas.Bool.Decides.{eqb_tells}
use Rattle.std.proofs.lemmas.List.{length-reverse, reverse-reverse}
use Rattle.std.proofs.lemmas.Nat.{mul-add-lt}
use Rattle.audit.specs.Audits.{BothShow}
use Rattle.blk_base.specs.Regions.{needed_blocks, slab_stride_of}
use Rattle.blk_base.specs.declared.geometry.Geometry.{Geometry}
use Rattle.blk_base.specs.declared.geometry.Super.{Super as Superblock}
use Rattle.disk_model.proofs.SinceLaws.{were_only_read}
use Rattle.disk_model.specs.Log.{Blocks, block_at}
use Rattle.disk_model.specs.Seen.{Seen}
use Rattle.disk_model.specs.Trust.{Trust}
use Rattle.disk_model.specs.Since.{IsUntouched}
use Rattle.disk_model.proofs.LookedLaws.{one_in-since, given_block}
use Rattle.image_model.specs.Maps.{Image}
use Rattle.image_model.specs.Sound.{image_of}
use Rattle.image_model.specs.Looked.{HasOneImageButIndex, is_looked_at, looked_in}
use Rattle.image_model.proofs.LookedLaws.{looked_high, looked_in_place}
use Rattle.journal_window.specs.States.{WindowState}
use Rattle.replay_map.proofs.HonestLaws.{all_shown}
use Rattle.replay_map.proofs.ReadLaws.{blocks_untouched}
use Rattle.slab_reading.specs.Reads.{IsSlabRead, SlabsRead, read_of}
use Rattle.slab_reading.specs.Slabs.{blocks_per_slab, first_of_slab}
use Rattle.image_layout.specs.Opened.{super_of_image}

-- A device that tells and is honest, and its one image.
module _ (trust : Trust) (image : Blocks) (told : IsTrue trust.tells) (fair : IsTrue trust.honest) where
  abbrev HasThis : Seen → Type 0
  HasThis seen = HasOneImageButIndex seen.opening seen.log image

  -- reads leave it
  pub still : (before now : Seen) → IsUntouched trust.tells before now → HasThis before → HasThis now
  still before now untouched one =
      subst (λ (opening : Blocks). HasOneImageButIndex opening now.log image) (sym untouched.stays.opening)
      (one_in-since (looked_in image) before.opening before.log now.log image (untouched.reads told) one)

  -- the blocks of a slab
  slab_shown : (g : Geometry) (slab : ℕ) (before now : Seen) (read : Blocks) → ((b : ℕ) → IsTrue (is_looked_at g b) → IsTrue (looked_in image b)) → HasThis before → needed_blocks g ≤ before.size → slab < g.slabs
      → IsSlabRead trust g slab before now read → (i : ℕ) → i < blocks_per_slab g → block_at image (first_of_slab g slab + i) ≡ block_at read i
  slab_shown g slab before now read looks one room is reads i below =
      let count = reads.count in
      let size = length-reverse read in
      let opening = reads.reads.told told in
      let width = slab_stride_of g in
      let ends = mul-add-lt slab width (g.slab_blocks + i) g.slabs is (omega (arith, below)) in
      let row = mul-add-lt slab width (width - 1) g.slabs is (omega (arith, below)) in
      given_block (looked_in image) trust (first_of_slab g slab) before image told fair one (reverse read) reads.reads.given
      (omega (arith, count, size, opening, room, row, below)) i (omega (arith, size, count, below)) (looks (first_of_slab g slab + i) (looked_high g (first_of_slab g slab + i) (omega arith)))
      ∙ ap (λ (blocks : Blocks). block_at blocks i) (reverse-reverse read)

  slabs_shown : (g : Geometry) (before now : Seen) (reads : List Blocks) → ((b : ℕ) → IsTrue (is_looked_at g b) → IsTrue (looked_in image b)) → HasThis before → needed_blocks g ≤ before.size → length reads ≤ g.slabs
      → SlabsRead trust g before now reads → HasThis now × (now.size ≡ before.size)
      × ((slab i : ℕ) → slab < length reads → i < blocks_per_slab g → block_at image (first_of_slab g slab + i) ≡ block_at (read_of reads slab) i)
  slabs_shown g before now [] looks one room few same =
      (subst HasThis (sym same) one, ap (λ (seen : Seen). seen.size) same, λ slab i below inside. absurd (omega (arith, below)))
  slabs_shown g before now (read ∷ older) looks one room few (middle, earlier, is) =
      let rest = slabs_shown g before middle older looks one room (omega (arith, few)) earlier in
      let same_size = rest.1 in
      let room_too : needed_blocks g ≤ middle.size = omega (arith, same_size, room) in
      let untouched = were_only_read trust (first_of_slab g (length older)) middle now (reverse read) is.reads in (
        still middle now untouched rest.0,
        untouched.stays.size ∙ same_size,
        λ slab i below inside. elim (eqb_tells slab (length older)) [
          | inl same ↦ rw (same.0) (subst (λ (s : ℕ). block_at image (first_of_slab g s + i) ≡ block_at read i) (sym same.1)
              (slab_shown g (length older) middle now read looks rest.0 room_too (omega (arith, few)) is i inside))
          | inr other ↦ let apart = other.1 in rw (other.0) (rest.2 slab i (omega (arith, below, apart)) inside)
        ],
      )

  pub both_shown : (head : Superblock) (window : WindowState) (before now : Seen) (Says : Image → Type 0) → super_of_image image ≡ Ok head → HasThis before → needed_blocks head.geometry ≤ before.size
      → BothShow trust head window before now Says → Says (image_of head image window.entries)
  both_shown head window before now Says accepted one room (pages, slabs, read, says) =
      let middle = read.middle in
      let untouched = blocks_untouched trust head.geometry before middle pages read.pages_read in
      let size = untouched.stays.size in
      let counted = read.slabs_read.count in
      let shown = slabs_shown head.geometry middle now slabs (looked_in_place image head accepted) (still before middle untouched one) (omega (arith, size, room)) (omega (arith, counted)) read.slabs_read.read in
      says image (all_shown trust image told fair head.geometry before middle pages (looked_in_place image head accepted) one read.pages_read)
      (λ slab i below inside. shown.2 slab i (omega (arith, below, counted)) inside)
