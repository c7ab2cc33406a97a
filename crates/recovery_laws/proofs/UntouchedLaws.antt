-- An image of which nothing was written but to its index can be recovered, and says the same.
use Rattle.std.proofs.Common.{ℕ, ◌≡◌, ◌*◌, ◌/◌, ◌%◌, ◌<◌, ◌≤◌, IsTrue, length, All, Some, Ok, sym, ◌∙◌, ap, ap₂, subst, inl, inr, arith}
use Rattle.blk_base.specs.Regions.{Root, DataBlock, ReferenceBlock, block_of, needed_blocks, references_of}
use Rattle.blk_base.specs.Sectors.{sector}
use Rattle.blk_base.proofs.RegionLaws.{data_block_high, inside}
use Rattle.blk_base.specs.declared.geometry.Geometry.{Geometry}
use Rattle.blk_base.specs.declared.place.PageId.{PageId}
use Rattle.blk_base.specs.declared.place.Pbn.{Pbn}
use Rattle.disk_model.specs.Log.{Blocks, block_at}
use Rattle.disk_model.specs.OneImages.{AreAlikeIn}
use Rattle.image_layout.specs.Opened.{super_of_image}
use Rattle.image_layout.specs.Superblock.{super_of}
use Rattle.image_model.proofs.LookedLaws.{looked_first, looked_high, looked_in_place, looked_place}
use Rattle.image_model.specs.Counts.{reference_sector_at}
use Rattle.image_model.specs.Looked.{is_looked_at, looked_in}
use Rattle.image_model.specs.Maps.{Image, page_at}
use Rattle.recovery_laws.specs.Recoverable.{IsRecoverable, StillSays, recoverable_image}
use Rattle.recovery_laws.specs.Written.{AreUnderway, IsPartPage}
use Rattle.recovery_laws.proofs.OldLaws.{page_stands, part_of_good}
use Rattle.recovery_laws.proofs.RecoverableLaws.{known, room, underway_still}
use Rattle.recovery_laws.proofs.SuperLaws.{first_of_image}
use Rattle.recovery_laws.proofs.WindowFacts.{IsKnown}

-- Blocks that are those of such an image where it is looked, but for the superblock.
module _ (base now : Blocks) (able : IsRecoverable base) (size : length now ≡ length base)
    (same : (b : ℕ) → 1 ≤ b → b < length base → IsTrue (is_looked_at able.head.geometry b) → block_at now b ≡ block_at base b) where
  abbrev g : Geometry
  g = able.head.geometry

  abbrev image : Image
  image = recoverable_image base able

  all_known : All (IsKnown g able.last) able.window
  all_known = known base now able

  enough : needed_blocks g ≤ length base
  enough = room base now able

  pub page_same : (page : PageId) (at : Pbn) → page_at image page ≡ Some at → block_at now at.0 ≡ block_at base at.0
  page_same page at there = let wide = enough in elim (page_stands image able.pages able.last all_known page at there) [
    | inl root ↦ let below = inside g (Root page.tree) root.1 in let is = root.2 in same at.0 (omega (arith, is)) (omega (arith, below, is, wide)) (subst (λ (b : ℕ). IsTrue (is_looked_at g b)) is (looked_place g (Root page.tree) root.1 tt))
    | inr stands ↦
        let below = inside g (DataBlock stands.slab stands.offset) stands.inside in let is = stands.stands in let high = data_block_high g at.0 stands in
        same at.0 (omega (arith, high)) (omega (arith, below, is, wide)) (looked_high g at.0 high)
  ]

  pub sector_same : (slab n : ℕ) → slab < g.slabs → n < 8 * references_of g → reference_sector_at g now slab n ≡ reference_sector_at g base slab n
  sector_same slab n is below =
      let wide = enough in let within = inside g (ReferenceBlock slab (n / 8)) (is, omega (arith, below)) in
      ap (sector (n % 8)) (same (block_of g (ReferenceBlock slab (n / 8))) (omega arith) (omega (arith, within, wide))
      (looked_place g (ReferenceBlock slab (n / 8)) (is, omega (arith, below)) tt))

  -- so nothing of it was written yet
  not_begun : sector 0 (block_at now 0) ≡ sector 0 (block_at base 0) → AreUnderway image now
  not_begun first = record {
    size = size;
    head = first;
    pages = λ page at there. subst (IsPartPage image page at) (sym (page_same page at there)) (part_of_good image page at (able.pages page at there));
    counters = λ slab n is below. inl (sector_same slab n is below);
    others = λ b behind below looked no_page no_counters. same b behind below looked;
  }

pub alike_still : (base now : Blocks) (able : IsRecoverable base) → AreAlikeIn (looked_in base) base now → StillSays (recoverable_image base able) now
alike_still base now able alike =
    let enough = room base now able in
    underway_still base now able
    (not_begun base now able alike.size (λ b behind below here. alike.same b below (looked_in_place base able.head able.opens.accepted b here))
    (ap (sector 0) (alike.same 0 (omega (arith, enough)) (looked_first base))))

-- and has the same superblock
pub same_super : (base now : Blocks) (able : IsRecoverable base) → AreAlikeIn (looked_in base) base now → super_of_image now ≡ Ok able.head
same_super base now able alike =
    let enough = room base now able in
    let size = alike.size in
    let first = alike.same 0 (omega (arith, enough)) (looked_first base) in
    first_of_image now (omega (arith, enough, size)) ∙ ap₂ super_of first size ∙ sym (first_of_image base (omega (arith, enough))) ∙ able.opens.accepted
