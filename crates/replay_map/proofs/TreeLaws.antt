-- Trees: each linked page is below the root of its tree, and what all trees give is the map.
use Rattle.std.proofs.Common.{ℕ, zero, suc, ◌≡◌, ◌⊎◌, ◌+◌, ◌-◌, ◌/◌, ◌^◌, ◌<◌, ◌≤◌, Bool, List, [], Option, Some, None, IsSome, Contains, refl, sym, ◌∙◌, ap, subst, inl, inr, arith}
use Rattle.std.proofs.lemmas.Bool.{cases_lt}
use Rattle.blk_base.specs.declared.geometry.Geometry.{Geometry}
use Rattle.blk_base.specs.declared.place.PageId.{PageId}
use Rattle.blk_base.specs.declared.place.Pbn.{Pbn}
use Rattle.blk_base.specs.declared.sizes.TheConstants.{PAGE_SLOTS, TREES}
use Rattle.blk_base.specs.declared.place.Mapping.{Mapping}
use Rattle.blk_base.specs.Pages.{above, root_page}
use Rattle.disk_model.specs.Seen.{Seen}
use Rattle.disk_model.specs.Trust.{Trust}
use Rattle.image_model.proofs.MapLaws.{page_in_range}
use Rattle.image_model.specs.Faults.{IsPageFault}
use Rattle.image_model.specs.Maps.{Image, ArePagesGood, IsGoodPage, linked_at, page_at, put_last}
use Rattle.image_model.specs.Pages.{IsAhead}
use Rattle.image_model.specs.declared.fault.ImageFault.{ImageFault}
use Rattle.page_codec.specs.declared.fault.PageFault.{PageFault}
use Rattle.replay_map.proofs.LinkLaws.{at_links}
use Rattle.replay_map.proofs.LinkedLaws.{above_of, above_linked, root_alone}
use Rattle.replay_map.proofs.ReadLaws.{sized, sized_on}
use Rattle.replay_map.proofs.SumLaws.{sum_next, sum_none}
use Rattle.replay_map.proofs.UnderLaws.{up_none, up_on}
use Rattle.replay_map.proofs.WalkLaws.{fault_among, walked_none, walked_on}
use Rattle.replay_map.proofs.WholeSumLaws.{all_trees}
use Rattle.replay_map.proofs.WholeWalkLaws.{fails_behind}
use Rattle.replay_map.specs.Reads.{IsShown}
use Rattle.replay_map.specs.Replayed.{AreAllChanges, AreAllLinks, AreAllMapped, times}
use Rattle.replay_map.specs.Sums.{maps_below, maps_in_trees, maps_under}
use Rattle.replay_map.specs.Walks.{ALink, AChange, IsFirstFault, IsInTrees, IsLinked, IsRoot, IsUnder, WalkFails, WalkedTrees, WalkedUnder}
use Rattle.replay_map.specs.declared.changes.SlotId.{SlotId}
use Rattle.replay_map.specs.declared.found.Found.{Found}
use Rattle.replay_map.specs.declared.links.Link.{Link}

module _ (image : Image) (some : 1 ≤ image.geometry.height) where
  pub root_linked : (tree : ℕ) (link : Link) → tree < TREES → IsRoot image.geometry tree link → IsLinked image link
  root_linked tree link inside root =
      let none : image.geometry.height - 1 - (image.geometry.height - 1) ≡ 0 = omega arith in
      ap (page_at image) root.0
      ∙ at_links image (root_page image.geometry tree) inside (omega (arith, some))
      ∙ ap (λ (n : ℕ). linked_at image n (root_page image.geometry tree)) none
      ∙ ap (λ (n : ℕ). Some (record { 0 = n })) (sym root.1)

  -- so many links below a root
  below_root : (links : ℕ) (page : PageId) (at : Pbn) → linked_at image links page ≡ Some at → page.index / PAGE_SLOTS ^ links ≡ 0
  below_root zero page at linked = up_none page.index ∙ root_alone image page at linked
  below_root (suc n) page at linked =
      let up = above_of image n page at linked in
      let one_more : suc n ≡ 1 + n = omega arith in
      ap (λ (k : ℕ). page.index / PAGE_SLOTS ^ k) one_more ∙ up_on page.index 1 n ∙ below_root n (above page) up.0 up.1

  pub under_root : (page : PageId) (at : Pbn) → page_at image page ≡ Some at → IsUnder (root_page image.geometry page.tree) page
  under_root page at there =
      let range = page_in_range image page at there in
      let tree = range.0 in
      let level = range.1 in (
        image.geometry.height - 1 - page.level,
        refl,
        omega (arith, level),
        below_root (image.geometry.height - 1 - page.level) page at (sym (at_links image page tree level) ∙ there),
      )

  module _ (tree : ℕ) (link : Link) (inside : tree < TREES) (root : IsRoot image.geometry tree link) where
    own_tree : (page : PageId) (at : Pbn) → page_at image page ≡ Some at → page.tree ≡ tree → IsUnder link.page page
    own_tree page at there same =
        subst (λ (p : PageId). IsUnder p page) (sym root.0) (subst (λ (t : ℕ). IsUnder (root_page image.geometry t) page) same (under_root page at there))

    tree_of : (page : PageId) → IsUnder link.page page → page.tree ≡ tree
    tree_of page under = under.1 ∙ ap (λ (p : PageId). p.tree) root.0

    -- one tree more
    pub tree_walked : (old middle new : Found) → WalkedTrees image tree old middle → WalkedUnder image link.page middle new → WalkedTrees image (tree + 1) old new
    tree_walked old middle new =
        walked_on image (IsInTrees tree) (IsUnder link.page) (IsInTrees (tree + 1)) (maps_in_trees image tree) (maps_below image link.page) (maps_in_trees image (tree + 1)) old middle new apart together sum
      where
        sum : (block : Pbn) → maps_in_trees image (tree + 1) block ≡ maps_in_trees image tree block + maps_below image link.page block
        sum block =
            let more = sum_next (λ t. maps_under image block (image.geometry.height - 1) (root_page image.geometry t)) tree in
            let own = ap (λ (page : PageId). maps_under image block page.level page) root.0 in
            omega (arith, more, own)

        apart : (page : PageId) (at : Pbn) → page_at image page ≡ Some at → IsInTrees (tree + 1) page → IsInTrees tree page ⊎ IsUnder link.page page
        apart page at there before = elim (cases_lt page.tree tree) [
          | inl less ↦ inl less
          | inr most ↦ inr (own_tree page at there (omega (arith, before, most)))
        ]

        together : (page : PageId) (at : Pbn) → page_at image page ≡ Some at → IsInTrees tree page ⊎ IsUnder link.page page → IsInTrees (tree + 1) page
        together page at there (inl less) = omega (arith, less)
        together page at there (inr under) = let same = tree_of page under in omega (arith, same)

    -- a fault in it is the first of all trees
    pub tree_fault : (old new : Found) (at : Pbn) (fault : PageFault) → WalkedTrees image tree old new → IsFirstFault image (IsUnder link.page) at fault
        → IsFirstFault image (IsInTrees TREES) at fault
    tree_fault old new at fault walked =
        fault_among image (IsUnder link.page) (IsInTrees TREES) at fault (λ page under. let same = tree_of page under in omega (arith, same, inside)) ahead
      where
        not_later : (page other : PageId) → IsAhead other page → page.tree < other.tree → ⊥
        not_later page other (inl earlier) later = omega (arith, earlier, later)
        not_later page other (inr (inl before)) later = let same = before.0 in omega (arith, same, later)
        not_later page other (inr (inr before)) later = let same = before.0 in omega (arith, same, later)

        ahead : (page other : PageId) (place : Pbn) → IsUnder link.page page → IsInTrees TREES other → IsAhead other page → page_at image other ≡ Some place
            → IsUnder link.page other ⊎ IsGoodPage image other place
        ahead page other place under within before there = elim (cases_lt other.tree tree) [
          | inl less ↦ inr (walked.good other place less there)
          | inr most ↦ elim (cases_lt tree other.tree) [
            | inl later ↦ absurd (let same = tree_of page under in not_later page other before (omega (arith, same, later)))
            | inr least ↦ inl (own_tree other place there (omega (arith, most, least)))
          ]
        ]

-- All trees.

module _ (image : Image) where
  -- the first fault of all trees is that of the image
  pub whole_fault : (at : Pbn) (fault : PageFault) → IsFirstFault image (IsInTrees TREES) at fault → IsPageFault image at fault
  whole_fault at fault is = record {
    page = is.page;
    there = is.there;
    has = is.has;
    first = λ other place before there. is.first other place (page_in_range image other place there).0 before there;
  }

  -- of no trees
  pub no_tree : (found : Found) → WalkedTrees image 0 found found
  no_tree found =
      walked_none image (IsInTrees 0) (maps_in_trees image 0) found (λ page at there before. omega (arith, before))
      (λ block. sum_none (λ tree. maps_under image block (image.geometry.height - 1) (root_page image.geometry tree)))

  module _ (found none : Found) (empty : (none.links.items ≡ []) × (none.slots.items ≡ []) × (none.mapped.items ≡ [])) (walked : WalkedTrees image TREES none found) where
    pub all_good : ArePagesGood image
    all_good page at there = walked.good page at (page_in_range image page at there).0 there

    nowhere : {T : Type 0} (xs : List T) (x : T) → xs ≡ [] → Contains xs x → ⊥
    nowhere xs x is has = let there : Contains [] x = subst (λ (ys : List _). Contains ys x) is has in let inside = there.1 in omega (arith, inside)

    pub all_links : AreAllLinks image found.links.items
    all_links link = (
      λ has. elim ((walked.items (ALink link)).0 has) [
        | inl before ↦ absurd (nowhere none.links.items link empty.0 before)
        | inr given ↦
            let range = page_in_range image given.0 given.1 given.3 in
            let high = range.1 in
            let level : link.page.level + 1 ≡ given.0.level = ap (λ (p : PageId). p.level) given.4.0 in
            (omega (arith, high, level), given.4.1)
      ],
      λ is.
          let up = above_linked image link.page link.at is.0 is.1 in
          (walked.items (ALink link)).1 (inr (above link.page, up.0, (page_in_range image (above link.page) up.0 up.1).0, up.1, (refl, is.1))),
    )

    is_there : (o : Option Pbn) → IsSome o → (at : Pbn) × (o ≡ Some at)
    is_there (Some at) some = (at, refl)
    is_there None some = absurd (cc some)

    pub all_changes : AreAllChanges image found.slots.items
    all_changes change = (
      λ has. elim ((walked.items (AChange change)).0 has) [
        | inl before ↦ absurd (nowhere none.slots.items change empty.1 before)
        | inr given ↦ (
          subst (λ (o : Option Pbn). IsSome o) (sym (ap (page_at image) given.4.0 ∙ given.3)) refl,
          given.4.1,
          ap (λ (p : PageId). put_last image.window p change.slot) given.4.0 ∙ given.4.2,
        )
      ],
      λ is.
          let at = is_there (page_at image change.page) is.0 in
          (walked.items (AChange change)).1 (inr (change.page, at.0, (page_in_range image change.page at.0 at.1).0, at.1, (refl, is.1, is.2))),
    )

    pub all_mapped : 1 ≤ image.geometry.height → AreAllMapped image found.mapped.items
    all_mapped some block =
        let added = walked.mapped block in
        let before = ap (times block) empty.2 in
        let all = all_trees image block some in
        omega (arith, added, before, all)

-- What walks over trees show.

module _ (trust : Trust) (g : Geometry) (changes : List (SlotId × Mapping)) (some : 1 ≤ g.height) (tree : ℕ) (root : Link) (inside : tree < TREES) (is_root : IsRoot g tree root)
    (before middle now : Seen) (first old new : Found) (known : IsShown trust g changes before middle (λ image. WalkedTrees image tree first old)) where
  of_image : (image : Image) → image.geometry ≡ g → (1 ≤ image.geometry.height) × IsRoot image.geometry tree root
  of_image image same = (subst (λ (sizes : Geometry). 1 ≤ sizes.height) (sym same) some, subst (λ (sizes : Geometry). IsRoot sizes tree root) (sym same) is_root)

  pub one_tree_more : IsShown trust g changes middle now (λ image. IsLinked image root → WalkedUnder image root.page old new)
      → IsShown trust g changes before now (λ image. WalkedTrees image (tree + 1) first new)
  one_tree_more shown =
      sized_on trust g changes before middle now (λ image. WalkedTrees image tree first old) (λ image. IsLinked image root → WalkedUnder image root.page old new)
      (λ image. WalkedTrees image (tree + 1) first new) known shown
      (λ image same knows walks.
      let of = of_image image same in
      tree_walked image of.0 tree root inside of.1 first old new knows (walks (root_linked image of.0 tree root inside of.1)))

  pub tree_fails : (why : ImageFault) → WalkFails trust g changes middle now (λ image. IsLinked image root) (IsUnder root.page) why
      → WalkFails trust g changes before now (λ image. Unit {0}) (IsInTrees TREES) why
  tree_fails why fails =
      fails_behind trust g changes before middle now (λ image. WalkedTrees image tree first old × (image.geometry ≡ g)) (λ image. IsLinked image root) (λ image. Unit {0}) (IsUnder root.page) (IsInTrees TREES) why
      (sized trust g changes before middle (λ image. WalkedTrees image tree first old) known)
      (λ image knows here. let of = of_image image knows.1 in root_linked image of.0 tree root inside of.1)
      (λ image at fault knows here is. let of = of_image image knows.1 in tree_fault image of.0 tree root inside of.1 first old at fault knows.0 is)
      fails
