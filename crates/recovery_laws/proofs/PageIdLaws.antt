-- A block has at most one linked page.
use Rattle.std.proofs.Common.{ℕ, zero, suc, ◌≡◌, ◌-◌, ◌<◌, ◌≤◌, ◌^◌, ◌==◌, Bool, true, false, if◌then◌else◌, Option, Some, None, All, refl, sym, ◌∙◌, inl, inr, arith}
use Rattle.std.proofs.Math.Nat.{pow-succ'}
use Rattle.std.proofs.lemmas.Bool.Decides.{eqb_tells}
use Rattle.blk_base.specs.Limits.{IsGeometry}
use Rattle.blk_base.specs.Regions.{Root, block_of}
use Rattle.blk_base.specs.declared.place.Mapping.{Mapping}
use Rattle.blk_base.specs.declared.place.PageId.{PageId}
use Rattle.blk_base.specs.declared.place.Pbn.{Pbn}
use Rattle.disk_model.specs.Log.{block_at}
use Rattle.image_model.proofs.MapLaws.{page_in_range}
use Rattle.image_model.specs.Maps.{Image, ArePagesGood, head_of, linked_at, page_at, says, target_of}
use Rattle.blk_base.specs.Pages.{above, slot_of}
use Rattle.page_codec.proofs.HeadLaws.{one_head}
use Rattle.page_codec.proofs.HeldLaws.{holds_block}
use Rattle.page_codec.specs.Grammar.{IsHead}
use Rattle.recovery_laws.proofs.OldLaws.{page_stands}
use Rattle.recovery_laws.proofs.SameMapLaws.{at_links}
use Rattle.recovery_laws.proofs.WindowFacts.{IsKnown}

-- The numbers of linked pages are small.

under_some : (o : Option Pbn) (f : Pbn → Mapping) (at : Pbn) → ◌≡◌ {A = Option Pbn} (elim o [ Some a ↦ target_of (f a) | None ↦ None ]) (Some at) → (a : Pbn) × (o ≡ Some a)
under_some (Some a) f at is = (a, refl)
under_some None f at is = absurd (cc is)

root_number : (b : Bool) (x at : Pbn) → (if b then Some x else None) ≡ Some at → b ≡ true
root_number true x at is = refl
root_number false x at is = absurd (cc is)

small_number : (image : Image) (links : ℕ) (page : PageId) (at : Pbn) → linked_at image links page ≡ Some at → page.index < 812 ^ links
small_number image zero page at is =
    let first = root_number (page.index == 0) (record { 0 = block_of image.geometry (Root page.tree) }) at is in
    elim (eqb_tells page.index 0) [
      | inl same ↦ let none = same.1 in omega (arith, none)
      | inr other ↦ absurd (let no = other.0 in cc (no, first))
    ]
small_number image (suc links) page at is =
    let link = under_some (linked_at image links (above page)) (λ a. says image (above page) a (slot_of page)) at is in
    let below = small_number image links (above page) link.0 link.1 in
    let power = pow-succ' 812 links in
    omega (arith, below, power)

module _ (image : Image) (good : ArePagesGood image) (last : ℕ) (known : All (IsKnown image.geometry last) image.window) (sizes : IsGeometry image.geometry) (named : image.geometry.nonce < 2 ^ 64) where
  stands_low : (page : PageId) (at : Pbn) → page_at image page ≡ Some at → at.0 < 2 ^ 32
  stands_low page at there = elim (page_stands image good last known page at there) [
    | inl root ↦ let tree = root.1 in let is = root.2 in let journal = sizes.journal in omega (arith, tree, is, journal)
    | inr stands ↦ (holds_block image.geometry 1 at sizes stands).1
  ]

  is_head : (page : PageId) (at : Pbn) → page_at image page ≡ Some at → IsHead (head_of image page at)
  is_head page at there =
      let range = page_in_range image page at there in
      let tree = range.0 in
      let level = range.1 in
      let high = sizes.height in
      let links = image.geometry.height - 1 - page.level in
      let number = small_number image links page at (sym (at_links image page range.0 range.1) ∙ there) in
      record {
        nonce = named;
        at = stands_low page at there;
        page = (omega (arith, tree), omega (arith, level, high), small_power links page.index (omega (arith, high)) number);
      }
    where
      small_power : (links n : ℕ) → links ≤ 2 → n < 812 ^ links → n < 2 ^ 32
      small_power zero n few below = omega (arith, below)
      small_power (suc zero) n few below = omega (arith, below)
      small_power (suc (suc zero)) n few below = omega (arith, below)
      small_power (suc (suc (suc links))) n few below = absurd (omega (arith, few))

  pub one_page : (page other : PageId) (at : Pbn) → page_at image page ≡ Some at → page_at image other ≡ Some at → page ≡ other
  one_page page other at there there' =
      (one_head (head_of image page at) (head_of image other at) (block_at image.blocks at.0) (is_head page at there) (is_head other at there') (good page at there).headed (good other at there').headed).2
