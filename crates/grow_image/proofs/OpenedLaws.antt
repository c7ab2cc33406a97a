-- How the growing of an image that was opened ends, by what its parts answered.
use Rattle.std.proofs.Common.{ℕ, ◌≡◌, ◌≤◌, ◌<◌, Bool, List, None, Result, Ok, Err, IsErrAnd, refl, sym, ◌∙◌, ap, subst, inr, arith}
use Rattle.std.proofs.Math.Nat.{mod-lt, mul-le-mul_right}
use Rattle.std.proofs.lemmas.List.Elements.{All-contains, All-get_or}
use Rattle.blk_base.specs.Regions.{IsDataBlock, needed_blocks, slab_stride_of}
use Rattle.blk_base.specs.declared.geometry.Geometry.{Geometry}
use Rattle.blk_base.specs.declared.opened.Opened.{Opened}
use Rattle.blk_base.specs.declared.opened.OpenedPage.{OpenedPage}
use Rattle.blk_base.specs.declared.place.PageId.{PageId}
use Rattle.blk_base.specs.declared.place.Mapping.TheVariants.{Unmapped}
use Rattle.blk_base.specs.declared.sizes.TheConstants.{PAGE_SLOTS}
use Rattle.blk_base.specs.Pages.{slot_of}
use Rattle.block_map_tree.specs.OpenedTree.{IsOpened, all_trees}
use Rattle.block_map_tree.specs.Pages.{IsTreeOf}
use Rattle.disk_model.specs.Seen.{Seen}
use Rattle.disk_model.specs.Trust.{Trust}
use Rattle.disk_model.specs.declared.call.Failed.{Failed}
use Rattle.image_format.specs.Runs.{Makes}
use Rattle.image_model.specs.declared.fault.ImageFault.{ImageFault}
use Rattle.image_model.specs.declared.fault.ImageFault.TheVariants.{Super, Window, Page, Counter, SharedPage, Counts, Device, Unclean, Memory}
use Rattle.page_codec.specs.Grammar.{AreHeld, HoldsMapping}
use Rattle.replay_map.specs.declared.links.Link.{Link}
use Rattle.grow_image.specs.Calls.{growth_calls}
use Rattle.grow_image.specs.Growth.{GrowsOpened, IsSearched, UnmappedFails, new_addresses}
use Rattle.grow_image.specs.Searches.{SearchFails}
use Rattle.grow_image.specs.NewAddresses.{AreNewLeaves, IsLeafBelow}
use Rattle.grow_image.specs.Sizes.{CanGrow, grown_sizes}
use Rattle.grow_image.specs.declared.fault.GrowFault.{GrowFault}
use Rattle.grow_image.specs.declared.fault.GrowFault.TheVariants.{Image}
use Rattle.grow_image.specs.declared.forms.Grown.{Grown}

-- A leaf stands at a data block.
pub leaf_data : (g : Geometry) (pages : List OpenedPage) → IsOpened (all_trees g) pages → (leaf : Link) → IsLeafBelow pages leaf → IsDataBlock g leaf.at.0
leaf_data g pages opened leaf is =
    let parent = is.led.parent in
    let tree : parent.page.tree ≡ leaf.page.tree = ap (λ (p : PageId). p.tree) is.led.named in
    let few = is.tree in
    let of_tree : IsTreeOf (all_trees g) parent.page.tree = record { inside = omega (arith, tree, few); own = omega arith } in
    let held : AreHeld g parent.page.level parent.mappings =
    All-contains (λ (o : OpenedPage). IsTreeOf (all_trees g) o.page.tree → AreHeld g o.page.level o.mappings) pages parent opened.held is.led.listed of_tree in
    let small : slot_of leaf.page < PAGE_SLOTS = mod-lt leaf.page.index (omega arith) in
    let count = held.count in
    let holds = All-get_or (HoldsMapping g parent.page.level) parent.mappings (slot_of leaf.page) Unmapped (omega (arith, small, count)) held.each in
    (subst (HoldsMapping g parent.page.level) is.led.leads holds).0

-- A device with the blocks of the larger image has those of the image.
pub still_fits : (g : Geometry) (logical slabs blocks : ℕ) → CanGrow g logical slabs blocks → needed_blocks g ≤ blocks
still_fits g logical slabs blocks can =
    let row = mul-le-mul_right (slab_stride_of g) can.more.slabs_more in
    let fits = can.fits in
    omega (arith, row, fits)

-- The search.

pub searching_failed : (trust : Trust) (opened : Opened) (logical : ℕ) (leaves : List Link) (before now : Seen) (why : ImageFault)
    → AreNewLeaves (new_addresses opened.head.geometry logical) opened.pages.items leaves
    → SearchFails trust opened.head.geometry (new_addresses opened.head.geometry logical) leaves before now why → UnmappedFails trust opened logical before now (Image why)
searching_failed trust opened logical leaves before now (Page at fault) are fails = (leaves, are, fails)
searching_failed trust opened logical leaves before now Device are fails = (leaves, are, fails)
searching_failed trust opened logical leaves before now Memory are fails = absurd fails
searching_failed trust opened logical leaves before now (Super fault) are fails = absurd fails
searching_failed trust opened logical leaves before now (Window sequence) are fails = absurd fails
searching_failed trust opened logical leaves before now (Counter at point) are fails = absurd fails
searching_failed trust opened logical leaves before now (SharedPage at) are fails = absurd fails
searching_failed trust opened logical leaves before now (Counts at stored mapped) are fails = absurd fails
searching_failed trust opened logical leaves before now Unclean are fails = absurd fails

-- The whole.

module _ (trust : Trust) (opened : Opened) (logical slabs : ℕ) (before now : Seen) where
  -- what holds of a refusal holds where it is passed on
  pub passed_as : (why : GrowFault) (result : Result Grown GrowFault) → IsErrAnd result (λ e. e ≡ why) → GrowsOpened trust opened logical slabs before now (Err why)
      → GrowsOpened trust opened logical slabs before now result
  passed_as why (Ok grown) is fails = absurd is
  passed_as why (Err e) is fails = subst (λ (f : GrowFault). GrowsOpened trust opened logical slabs before now (Err f)) (sym is) fails

  module _ (middle : Seen) (g : Geometry) (same : g ≡ grown_sizes opened.head.geometry logical slabs) (can : CanGrow opened.head.geometry logical slabs before.size)
      (searched : IsSearched trust opened logical before middle None) where
    pub call_failed : (fault : Failed) → Makes trust.tells middle now (growth_calls g opened.head.geometry.slabs opened.head.start) (Err fault)
        → GrowsOpened trust opened logical slabs before now (Err (Image Device))
    call_failed fault makes = inr (inr (
      refl,
      record {
        can = can;
        middle = middle;
        searched = searched;
        failed = subst (λ (h : Geometry). Makes trust.tells middle now (growth_calls h opened.head.geometry.slabs opened.head.start) (Err fault)) same makes;
      },
    ))

    pub all_made : (grown : Grown) → Makes trust.tells middle now (growth_calls g opened.head.geometry.slabs opened.head.start) (Ok tt)
        → grown ≡ record { blocks = needed_blocks g; slabs = slabs; slab_blocks = g.slab_blocks; logical = logical } → GrowsOpened trust opened logical slabs before now (Ok grown)
    all_made grown makes is = record {
      can = can;
      middle = middle;
      searched = searched;
      made = subst (λ (h : Geometry). Makes trust.tells middle now (growth_calls h opened.head.geometry.slabs opened.head.start) (Ok tt)) same makes;
      grown_is = is ∙ ap (λ (h : Geometry). record { blocks = needed_blocks h; slabs = slabs; slab_blocks = h.slab_blocks; logical = logical }) same;
    }
