-- What the opened image has, where it is as it was opened: the slots of its pages, and the blocks that its addresses are mapped to.
use Rattle.std.proofs.Common.{◌≡◌, ℕ, zero, suc, ◌+◌, ◌-◌, ◌<◌, Bool, true, false, nat_lt, if◌then◌else◌, Option, None, Some, List, [], ◌∷◌, refl, sym, ◌∙◌, subst, inl, inr, arith, ap, ◌==◌}
use Rattle.std.proofs.Math.Nat.{mod-lt}
use Rattle.core_laws.proofs.Common.{IsAsOpened, Logged, Makes, Pbn, Remaps, Session, cases_Bool, lt-ltb, opened_at, opened_image, IsSession, eqb_tells, same_Some}
use Rattle.blk_base.proofs.RegionLaws.{data_block_high, data_block_inside}
use Rattle.blk_base.specs.Regions.{IsDataBlock, Root, block_of}
use Rattle.blk_base.specs.declared.place.Mapping.TheVariants.{Unmapped, At}
use Rattle.blk_base.specs.declared.place.PageId.{PageId}
use Rattle.blk_base.specs.Pages.{above, leaf_of, page_above, slot_of_address}
use Rattle.blk_base.specs.declared.sizes.TheConstants.{PAGE_SLOTS, TREES}
use Rattle.core_laws.proofs.logical.PagePaths.{above_path}
use Rattle.core_model.specs.PageLinks.{Lacks, page_in}
use Rattle.core_model.specs.Sessions.{IsKept}
use Rattle.disk_model.specs.Log.{block_at}
use Rattle.image_model.proofs.LookedLaws.{looked_high, looked_low}
use Rattle.image_model.proofs.MapLaws.{page_in_range, slot_says_its_mapping}
use Rattle.image_model.specs.Maps.{Image, head_of, linked_at, mapping_in, page_at, says}
use Rattle.image_model.specs.Pages.{is_page}
use Rattle.page_codec.specs.Grammar.{HoldsMapping, IsSlot}

-- a page isn't there where the one above it isn't
link_none : (image : Image) (links : ℕ) (page : PageId) → linked_at image links (above page) ≡ None → linked_at image (suc links) page ≡ None
link_none image links page none = rw none refl

up_none : (image : Image) (page : PageId) → page.level + 1 < image.geometry.height → page_at image (above page) ≡ None → page_at image page ≡ None
up_none image page low none = elim (cases_Bool (nat_lt page.tree TREES)) [
  | inl inside ↦
      let here : nat_lt page.level image.geometry.height ≡ true = lt-ltb page.level image.geometry.height (omega (arith, low)) in
      let there : nat_lt (page.level + 1) image.geometry.height ≡ true = lt-ltb (page.level + 1) image.geometry.height low in
      let link : linked_at image (image.geometry.height - 1 - (page.level + 1)) (above page) ≡ None = rw (inside, there) at none in
      let steps : image.geometry.height - 1 - page.level ≡ suc (image.geometry.height - 1 - (page.level + 1)) = omega (arith, low) in
      rw (inside, here) (subst (λ (n : ℕ). linked_at image n page ≡ None) (sym steps) (link_none image (image.geometry.height - 1 - (page.level + 1)) page link))
  | inr outside ↦ rw outside refl
]

unput : (b : Bool) (x : Pbn) (o : Option Pbn) → (if b then Some x else o) ≡ None → o ≡ None
unput true x o none = absurd cc
unput false x o none = none

-- where no entry puts a page, the opened image doesn't either
pub not_opened : (links : PageId → Option Pbn) (es : List Logged) (page : PageId) → page_in links es page ≡ None → links page ≡ None
not_opened links [] page none = none
not_opened links (Remaps e ∷ es) page none = not_opened links es page none
not_opened links (Makes p ∷ es) page none = not_opened links es page (unput (is_page p.page page) p.at (page_in links es page) none)

-- where a root stands
pub root_at : (image : Image) (page : PageId) (at : Pbn) → page.level + 1 ≡ image.geometry.height → page_at image page ≡ Some at → at.0 ≡ block_of image.geometry (Root page.tree)
root_at image page at top stands =
    let range = page_in_range image page at stands in
    let none : image.geometry.height - 1 - page.level ≡ zero = omega (arith, top) in
    let is : (if page.index == 0 then Some (record { 0 = block_of image.geometry (Root page.tree) }) else None) ≡ Some at =
    rw (lt-ltb page.tree TREES range.0, lt-ltb page.level image.geometry.height range.1, none) at stands in
    by_index (page.index == 0) is
  where
    by_index : (b : Bool) → (if b then Some (record { 0 = block_of image.geometry (Root page.tree) }) else None) ≡ Some at → at.0 ≡ block_of image.geometry (Root page.tree)
    by_index true is = ap (λ (x : Pbn). x.0) (sym (same_Some _ _ is))
    by_index false is = absurd cc

module _ (s : Session) (opened : IsAsOpened s) where
  -- a slot of a page says its mapping
  pub slot_is : (page : PageId) (at : Pbn) (slot : ℕ) → page_at (opened_image s) page ≡ Some at → slot < PAGE_SLOTS
      → IsSlot (head_of (opened_image s) page at) (block_at s.image at.0) slot (mapping_in (block_at s.image at.0) slot)
  slot_is page at slot stands inside = elim ((opened.pages page at stands).slots slot inside) [
    | inl put ↦ absurd cc
    | inr (mapping, is) ↦
        subst (IsSlot (head_of (opened_image s) page at) (block_at s.image at.0) slot) (sym (slot_says_its_mapping (head_of (opened_image s) page at) (block_at s.image at.0) slot mapping is)) is
  ]

  -- what an address is mapped to is what its leaf says, or nothing where it has none
  pub leaf_says : (a : ℕ) (at : Pbn) → page_at (opened_image s) (leaf_of a) ≡ Some at → opened_at s a ≡ mapping_in (block_at s.image at.0) (slot_of_address a)
  leaf_says a at stands = subst (λ (o : Option Pbn). elim o [ Some block ↦ says (opened_image s) (leaf_of a) block (slot_of_address a) | None ↦ Unmapped ] ≡ mapping_in (block_at s.image at.0) (slot_of_address a)) (sym stands) refl

  pub no_leaf : (a : ℕ) → page_at (opened_image s) (leaf_of a) ≡ None → opened_at s a ≡ Unmapped
  no_leaf a none = subst (λ (o : Option Pbn). elim o [ Some block ↦ says (opened_image s) (leaf_of a) block (slot_of_address a) | None ↦ Unmapped ] ≡ Unmapped) (sym none) refl

  -- it is a data block
  pub opened_data : (a : ℕ) (x : Pbn) → opened_at s a ≡ At x → IsDataBlock s.sizes.geometry x.0
  opened_data a x is = by (page_at (opened_image s) (leaf_of a)) refl
    where
      by : (o : Option Pbn) → page_at (opened_image s) (leaf_of a) ≡ o → IsDataBlock s.sizes.geometry x.0
      by None none = absurd (let here = no_leaf a none in cc)
      by (Some at) stands =
          let slot = slot_is (leaf_of a) at (slot_of_address a) stands (mod-lt a (omega arith)) in
          (subst (HoldsMapping s.sizes.geometry 0) (sym (leaf_says a at stands) ∙ is) slot.held).0

  -- one that lacks a page of its path is mapped to nothing
  lacks_leaf : (level : ℕ) (a : ℕ) → level + 1 < s.sizes.geometry.height → page_at (opened_image s) (page_above level a) ≡ None → page_at (opened_image s) (leaf_of a) ≡ None
  lacks_leaf zero a low none = none
  lacks_leaf (suc level) a low none =
      lacks_leaf level a (omega (arith, low)) (up_none (opened_image s) (page_above level a) (omega (arith, low)) (subst (λ (p : PageId). page_at (opened_image s) p ≡ None) (sym (above_path level a)) none))

  pub lacks_unmapped : (es : List Logged) (a : ℕ) → Lacks s.sizes.geometry.height s.links es a → opened_at s a ≡ Unmapped
  lacks_unmapped es a (level, low, lacks) =
      no_leaf a (lacks_leaf level a low (sym (opened.links (page_above level a) low) ∙ not_opened s.links es (page_above level a) (nowhere (page_in s.links es (page_above level a)) refl)))
    where
      nowhere : (o : Option Pbn) → page_in s.links es (page_above level a) ≡ o → page_in s.links es (page_above level a) ≡ None
      nowhere None is = is
      nowhere (Some x) is = absurd (lacks (inr (rw is refl)))

  -- the block of each of its pages is one that the session leaves as it was
  pub page_left : IsSession s → (page : PageId) (at : Pbn) → page_at (opened_image s) page ≡ Some at → IsKept s at.0
  page_left session page at stands =
      let range = page_in_range (opened_image s) page at stands in
      elim (eqb_tells (page.level + 1) s.sizes.geometry.height) [
        | inl top ↦ root_left (root_at (opened_image s) page at top.1 stands)
        | inr lower ↦ let low : page.level + 1 < s.sizes.geometry.height = (let below = range.1 in let apart = lower.1 in omega (arith, below, apart)) in data_left low (opened.links page low ∙ stands)
      ]
    where
      root_left : at.0 ≡ block_of s.sizes.geometry (Root page.tree) → IsKept s at.0
      root_left is =
          let tree = (page_in_range (opened_image s) page at stands).0 in
          record {
            inside = omega (arith, is, tree);
            looked = looked_low s.sizes.geometry at.0 (omega (arith, is, tree));
            behind = omega (arith, is);
            unfreed = λ is_data. let high = data_block_high s.sizes.geometry at.0 is_data in absurd (omega (arith, high, is, tree));
          }

      data_left : page.level + 1 < s.sizes.geometry.height → s.links page ≡ Some at → IsKept s at.0
      data_left low linked =
          let is_data = session.linked page at linked in
          let high = data_block_high s.sizes.geometry at.0 is_data in
          record {
            inside = data_block_inside s.sizes.geometry at.0 is_data;
            looked = looked_high s.sizes.geometry at.0 high;
            behind = omega (arith, high);
            unfreed = λ is_data. (page, low, linked);
          }
