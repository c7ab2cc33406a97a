-- The pages that are made of links of the form of a block map are those of all its trees, on any device.
use Rattle.std.proofs.Common.{ℕ, zero, suc, ◌≡◌, ◌+◌, ◌-◌, ◌*◌, ◌/◌, ◌%◌, ◌^◌, ◌<◌, ◌≤◌, Option, Some, None, IsSome, List, ◌++◌, reverse, Contains, get_or, slice_index_or, refl, sym, ◌∙◌, ap, ap₂, subst, inl, inr, arith, map}
use Rattle.std.specs.List.{AllPairs}
use Rattle.std.proofs.Math.Nat.{mul-le-mul_left, mul-le-mul_right}
use Rattle.std.proofs.lemmas.Bool.{cases_lt}
use Rattle.std.proofs.lemmas.List.{get_or_default}
use Rattle.std.proofs.lemmas.List.Elements.{Contains-append_left, Contains-append_right, Contains-append_cases, Contains-get_or}
use Rattle.blk_base.specs.Limits.{IsGeometry}
use Rattle.blk_base.specs.Regions.{IsDataBlock, Root, block_of, slab_stride_of}
use Rattle.blk_base.specs.declared.geometry.Geometry.{Geometry}
use Rattle.blk_base.specs.declared.opened.OpenedPage.{OpenedPage}
use Rattle.blk_base.specs.declared.place.Mapping.{Mapping}
use Rattle.blk_base.specs.declared.place.Mapping.TheVariants.{Unmapped, At}
use Rattle.blk_base.specs.declared.place.PageId.{PageId}
use Rattle.blk_base.specs.declared.place.Pbn.{Pbn}
use Rattle.blk_base.specs.declared.sizes.TheConstants.{PAGE_SLOTS, TREES}
use Rattle.block_map_tree.specs.OpenedTree.{IsOpened, IsLed, IsListed, IsPlaced, all_trees}
use Rattle.block_map_tree.specs.Pages.{IsInner, IsLower, IsRoot, IsTreeOf}
use Rattle.block_map_tree.specs.declared.forms.Forest.{Forest}
use Rattle.page_codec.specs.Grammar.{AreHeld, HoldsMapping}
use Rattle.plain_laws.proofs.OptionLaws.{some_of, some_is}
use Rattle.replay_map.specs.Forms.{HasForm, IsInTree}
use Rattle.blk_base.specs.Pages.{above, page_below, root_page, slot_of}
use Rattle.replay_map.specs.declared.found.SlotChange.{SlotChange}
use Rattle.replay_map.specs.declared.links.Link.{Link}
use Rattle.session_opening.proofs.ListedLaws.{in_reverse, in_roots, linked_every, linked_of, linked_once, of_reverse, pairs_append, roots_in, roots_once}
use Rattle.session_opening.proofs.PlaceLaws.{block_linked, linked_has}
use Rattle.replay_map.specs.Links.{root_link}
use Rattle.session_opening.specs.Pages.{ArePages, roots_below}
use Rattle.session_opening.specs.Places.{AreLeading, block_by, mapping_to}
use Rattle.session_opening.specs.Starts.{AreLedTo}

-- a page of the levels that there are has a small number
few_pages : (levels : ℕ) → levels ≤ 2 → PAGE_SLOTS ^ levels ≤ 659344
few_pages zero low = let one : PAGE_SLOTS ^ 0 ≡ 1 = refl in omega (arith, one)
few_pages (suc zero) low = let one : PAGE_SLOTS ^ 1 ≡ 812 = refl in omega (arith, one)
few_pages (suc (suc zero)) low = let one : PAGE_SLOTS ^ 2 ≡ 659344 = refl in omega (arith, one)
few_pages (suc (suc (suc n))) low = absurd (omega (arith, low))

-- a data block's number fits 32 bits
small_block : (g : Geometry) (block : ℕ) → IsGeometry g → IsDataBlock g block → block < 2 ^ 32
small_block g block sizes is =
    let stride : slab_stride_of g ≤ 33000 = omega (arith, sizes.slab_blocks.1, sizes.slab_journal.1) in
    let few : is.slab ≤ 1024 = omega (arith, is.inside.0, sizes.slabs.1) in
    let one = mul-le-mul_left is.slab stride in
    let other = mul-le-mul_right 33000 few in
    omega (arith, is.stands, is.inside.1, one, other, sizes.journal.1, sizes.index.1, sizes.slab_blocks.1)

module _ (g : Geometry) (sizes : IsGeometry g) (links : List Link) (slots : List SlotChange) (form : HasForm g links slots) (pages : List OpenedPage) (made : ArePages g (reverse links) pages) where
  abbrev f : Forest
  f = all_trees g

  abbrev l : List Link
  l = reverse links

  abbrev named : List Link
  named = roots_below g TREES ++ made.inner

  -- a page has one link
  unique : (a b : Link) → Contains links a → Contains links b → a.page ≡ b.page → a ≡ b
  unique a b (i, inside, is) (j, within, is') same =
      let there : get_or links j a ≡ b = get_or_default links j a b within ∙ is' in
      elim (cases_lt i j) [
        | inl less ↦ absurd (form.once i j a less within (ap (λ (x : Link). x.page) is ∙ same ∙ ap (λ (x : Link). x.page) (sym there)))
        | inr most ↦ elim (cases_lt j i) [
          | inl more ↦
              let here : get_or links i b ≡ a = get_or_default links i b a inside ∙ is in
              absurd (form.once j i b more inside (ap (λ (x : Link). x.page) is' ∙ sym same ∙ ap (λ (x : Link). x.page) (sym here)))
          | inr least ↦ let equal : i ≡ j = omega (arith, most, least) in sym is ∙ ap (λ (n : ℕ). get_or links n a) equal ∙ there
        ]
      ]

  block_is : (link : Link) → Contains links link → block_by l link.page ≡ Some link.at
  block_is link has =
      let some = some_of (block_by l link.page) (linked_has l link (in_reverse links link has)) in
      let there = of_reverse links (record { page = link.page; at = some.0 }) (block_linked l link.page some.0 some.1) in
      some.1 ∙ ap (λ (b : Link). Some b.at) (unique (record { page = link.page; at = some.0 }) link there has refl)

  tree_of : (tree : ℕ) → tree < TREES → IsTreeOf f tree
  tree_of tree inside = record { inside = inside; own = omega arith }

  root_is : (tree : ℕ) → tree < TREES → IsRoot f (root_page g tree)
  root_is tree inside = record { tree = tree_of tree inside; level = let high = sizes.height.0 in omega (arith, high); index = refl }

  lower_is : (link : Link) → Contains links link → IsLower f link.page
  lower_is link has =
      let is = form.each link has in
      record { tree = tree_of link.page.tree is.page.tree; level = is.below; index = is.page.index }

  -- a page that leads to others is the root of its tree, or a linked one
  data IsOf (link : Link) : Type 0 where
    a_root : (tree : ℕ) → tree < TREES → root_link g tree ≡ link → IsOf link
    linked : Contains links link → 0 < link.page.level → IsOf link

  of_named : (link : Link) → Contains named link → IsOf link
  of_named link has = elim (Contains-append_cases (roots_below g TREES) made.inner link has) [
    | inl is_root ↦ let found = in_roots g TREES link is_root in a_root found.0 found.1 found.2
    | inr is_inner ↦ let is = made.are_inner.each link is_inner in linked (of_reverse links link is.1) is.0
  ]

  inner_of : (link : Link) → IsOf link → IsInner f link.page
  inner_of link (a_root tree inside is) =
      subst (λ (x : Link). IsInner f x.page) is (record { level = let high = sizes.height.0 in omega (arith, high); there = inl (root_is tree inside) })
  inner_of link (linked has some) = record { level = omega (arith, some); there = inr (lower_is link has) }

  -- the number of such a page is below 812
  few_of : (link : Link) → IsOf link → link.page.index < PAGE_SLOTS
  few_of link (a_root tree inside is) = omega (arith, ap (λ (x : Link). x.page.index) is)
  few_of link (linked has some) =
      let page = (form.each link has).page in
      let high = sizes.height.1 in
      small_index (g.height - 1 - link.page.level) (omega (arith, high, some)) page.index
    where
      small_index : (levels : ℕ) → levels ≤ 1 → link.page.index < PAGE_SLOTS ^ levels → link.page.index < PAGE_SLOTS
      small_index zero low below = let one : PAGE_SLOTS ^ 0 ≡ 1 = refl in omega (arith, one, below)
      small_index (suc zero) low below = let one : PAGE_SLOTS ^ 1 ≡ 812 = refl in omega (arith, one, below)
      small_index (suc (suc n)) low below = absurd (omega (arith, low))

  -- a listed page is there
  listed_root : (tree : ℕ) → tree < TREES → IsListed pages (root_page g tree)
  listed_root tree inside =
      let found = linked_every l named pages made.linked (root_link g tree) (Contains-append_left (roots_below g TREES) made.inner (root_link g tree) (roots_in g TREES tree inside)) in
      (found.0, found.1, found.2)

  listed_linked : (page : PageId) → 0 < page.level → IsSome (block_by l page) → IsListed pages page
  listed_linked page some has =
      let link = made.are_inner.every page some has in
      let found = linked_every l named pages made.linked link.0 (Contains-append_right (roots_below g TREES) made.inner link.0 link.1) in
      (found.0, found.1, found.2 ∙ link.2)

  listed_link : (link : Link) → Contains links link → 0 < link.page.level → IsListed pages link.page
  listed_link link has some = listed_linked link.page some (some_is (block_by l link.page) link.at (block_is link has))

  again : (page : PageId) → page_below (above page) (slot_of page) ≡ page
  again page =
      let level : page.level + 1 - 1 ≡ page.level = omega arith in
      let index : page.index / PAGE_SLOTS * PAGE_SLOTS + page.index % PAGE_SLOTS ≡ page.index = omega arith in
      ap₂ (λ (n i : ℕ). record { tree = page.tree; level = n; index = i }) level index

  -- where a slot of an opened page leads
  leads : (opened : OpenedPage) (link : Link) (page : PageId) → opened.page ≡ above page → opened.page ≡ link.page → page.index < 659344 → AreLeading l link.page PAGE_SLOTS opened.mappings
      → slice_index_or opened.mappings (slot_of page) Unmapped ≡ mapping_to (block_by l page)
  leads opened link page up same small leading =
      let slot : slot_of page < PAGE_SLOTS = omega arith in
      let parent : link.page ≡ above page = sym same ∙ up in
      let index : link.page.index * PAGE_SLOTS + slot_of page ≡ page.index
      = ap (λ (p : PageId). p.index * PAGE_SLOTS + slot_of page) parent ∙ (let whole : page.index / PAGE_SLOTS * PAGE_SLOTS + page.index % PAGE_SLOTS ≡ page.index = omega arith in whole) in
      leading.each (slot_of page) slot (omega (arith, index, small))
      ∙ ap (λ (p : PageId). mapping_to (block_by l (page_below p (slot_of page)))) parent ∙ ap (λ (p : PageId). mapping_to (block_by l p)) (again page)

  small_page : (page : PageId) → IsInTree g page → page.index < 659344
  small_page page is = let high = sizes.height.1 in let most = few_pages (g.height - 1 - page.level) (omega (arith, high)) in omega (arith, is.index, most)

  led_from : (link : Link) → Contains links link → (parent : IsListed pages (above link.page)) → IsLed pages link.page link.at
  led_from link has parent =
      let of = linked_of l named pages made.linked parent.0 parent.1 in
      record {
        parent = parent.0;
        listed = parent.1;
        named = parent.2;
        leads = leads parent.0 of.0 link.page parent.2 of.2 (small_page link.page (form.each link has).page) of.4 ∙ ap mapping_to (block_is link has);
      }

  led : (link : Link) → Contains links link → IsLed pages link.page link.at
  led link has = elim (form.parents link has) [
    | inl root ↦ led_from link has (subst (λ (p : PageId). IsListed pages p) (sym root) (listed_root link.page.tree (form.each link has).page.tree))
    | inr listed ↦
        let some : 0 < listed.0.page.level = omega (arith, ap (λ (p : PageId). p.level) listed.2) in
        led_from link has (subst (λ (p : PageId). IsListed pages p) listed.2 (listed_link listed.0 listed.1 some))
  ]

  placed_of : (opened : OpenedPage) (link : Link) → IsOf link → opened.page ≡ link.page → opened.at ≡ link.at → IsPlaced f pages opened
  placed_of opened link (a_root tree inside is) page at =
      let same : opened.page ≡ root_page g tree = page ∙ sym (ap (λ (x : Link). x.page) is) in
      inl (
        subst (λ (p : PageId). IsRoot f p) (sym same) (root_is tree inside),
        ap (λ (b : Pbn). b.0) at ∙ sym (ap (λ (x : Link). x.at.0) is) ∙ ap (λ (p : PageId). block_of g (Root p.tree)) (sym same),
      )
  placed_of opened link (linked has some) page at =
      inr (
        subst (λ (p : PageId). IsLower f p) (sym page) (lower_is link has),
        subst (λ (p : PageId). IsLed pages p opened.at) (sym page) (subst (λ (b : Pbn). IsLed pages link.page b) (sym at) (led link has)),
      )

  holds : (level : ℕ) (page : PageId) (o : Option Pbn) → block_by l page ≡ o → HoldsMapping g level (mapping_to o)
  holds level page None is = tt
  holds level page (Some at) is =
      let block = (form.each (record { page = page; at = at }) (of_reverse links (record { page = page; at = at }) (block_linked l page at is))).data_block in
      (block, small_block g at.0 sizes block)

  held_of : (opened : OpenedPage) (link : Link) → IsOf link → AreLeading l link.page PAGE_SLOTS opened.mappings → AreHeld g opened.page.level opened.mappings
  held_of opened link is leading = record {
    count = leading.size;
    each = λ slot d inside.
        let below : slot < PAGE_SLOTS = omega (arith, inside, leading.size) in
        let index : link.page.index * PAGE_SLOTS + slot < 2 ^ 32 = omega (arith, few_of link is, below) in
        let read : get_or opened.mappings slot d ≡ mapping_to (block_by l (page_below link.page slot))
        = get_or_default opened.mappings slot d Unmapped inside ∙ leading.each slot below index in
        subst (λ (m : Mapping). HoldsMapping g opened.page.level m) (sym read) (holds opened.page.level (page_below link.page slot) (block_by l (page_below link.page slot)) refl);
  }

  apart : AllPairs (λ (first second : Link). first.page ≡ second.page → ⊥) named
  apart =
      pairs_append (λ (first second : Link). first.page ≡ second.page → ⊥) (roots_below g TREES) made.inner (roots_once g TREES) made.are_inner.once (λ root link is_root is_inner same.
      let found = in_roots g TREES root is_root in
      let lower = (form.each link (of_reverse links link (made.are_inner.each link is_inner).1)).below in
      let level = ap (λ (x : Link). x.page.level) found.2 in
      let level_too = ap (λ (p : PageId). p.level) same in
      absurd (omega (arith, lower, level, level_too)))

  root_again : (page : PageId) → IsRoot f page → root_page g page.tree ≡ page
  root_again page is =
      let level : g.height - 1 ≡ page.level = omega (arith, is.level) in
      ap₂ (λ (n i : ℕ). record { tree = page.tree; level = n; index = i }) level (sym is.index)

  small_inner : (page : PageId) → IsInner f page → page.index < 659344
  small_inner page inner = elim inner.there [
    | inl root ↦ omega (arith, root.index)
    | inr lower ↦
        let high = sizes.height.1 in
        let most = few_pages (g.height - 1 - page.level) (omega (arith, high)) in
        omega (arith, lower.index, most)
  ]

  at_block : (o : Option Pbn) (at : Pbn) → mapping_to o ≡ At at → IsSome o
  at_block None at is = absurd cc
  at_block (Some other) at is = refl

  block_to : (o : Option Pbn) (at : Pbn) → mapping_to o ≡ At at → o ≡ Some at
  block_to None at is = absurd cc
  block_to (Some other) at is = cc

  -- the blocks of the links are those to which the opened pages lead
  pub led_to : (blocks : List Pbn) → blocks ≡ map (λ (link : Link). link.at) links → AreLedTo g pages blocks
  led_to blocks are = record {
    links = links;
    each = λ link has. (form.each link has, led link has);
    every = λ page at is.
        let of = linked_of l named pages made.linked is.parent is.listed in
        let few = few_of of.0 (of_named of.0 of.1) in
        let index : page.index / PAGE_SLOTS ≡ of.0.page.index = ap (λ (p : PageId). p.index) (sym is.named ∙ of.2) in
        let to : mapping_to (block_by l page) ≡ At at = sym (leads is.parent of.0 page is.named of.2 (omega (arith, few, index)) of.4) ∙ is.leads in
        of_reverse links (record { page = page; at = at }) (block_linked l page at (block_to (block_by l page) at to));
    once = form.once;
    listed = are;
  }

  pub opened_all : IsOpened (all_trees g) pages
  opened_all = record {
    once = linked_once l named pages made.linked apart;
    inner = λ k d below tree.
        let of = linked_of l named pages made.linked (get_or pages k d) (Contains-get_or pages k d below) in
        subst (λ (p : PageId). IsInner f p) (sym of.2) (inner_of of.0 (of_named of.0 of.1));
    placed = λ k d below tree.
        let of = linked_of l named pages made.linked (get_or pages k d) (Contains-get_or pages k d below) in
        placed_of (get_or pages k d) of.0 (of_named of.0 of.1) of.2 of.3;
    held = λ k d below tree.
        let of = linked_of l named pages made.linked (get_or pages k d) (Contains-get_or pages k d below) in
        held_of (get_or pages k d) of.0 (of_named of.0 of.1) of.4;
    roots = λ page is. subst (λ (p : PageId). IsListed pages p) (root_again page is) (listed_root page.tree is.tree.inside);
    linked = λ page at inner is.
        let of = linked_of l named pages made.linked is.parent is.listed in
        let to : mapping_to (block_by l page) ≡ At at = sym (leads is.parent of.0 page is.named of.2 (small_inner page inner) of.4) ∙ is.leads in
        listed_linked page (omega (arith, inner.level)) (at_block (block_by l page) at to);
  }
