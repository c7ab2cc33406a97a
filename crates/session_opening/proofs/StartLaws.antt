-- What a session starts with is what its image has.
use Rattle.std.proofs.Common.{ℕ, zero, suc, ◌≡◌, ◌+◌, ◌-◌, ◌*◌, ◌/◌, ◌^◌, ◌<◌, ◌≤◌, ◌&&◌, ◌==◌, if◌then◌else◌, Bool, true, false, Option, Some, None, IsSome, List, [], ◌∷◌, ◌++◌, map, reverse, Contains, refl, sym, ◌∙◌, ap, ap₂, subst, inl, inr, arith}
use Rattle.std.proofs.lemmas.Bool.{cases_lt}
use Rattle.std.proofs.lemmas.List.{length-map}
use Rattle.std.proofs.lemmas.List.Elements.{Contains-append_left, Contains-append_right, Contains-append_cases}
use Rattle.std.proofs.Math.ListN.{get_or-map}
use Rattle.blk_base.specs.Counters.{sectors_per_slab}
use Rattle.blk_base.specs.Limits.{IsGeometry}
use Rattle.blk_base.specs.Regions.{Root, block_of}
use Rattle.blk_base.specs.declared.geometry.Geometry.{Geometry}
use Rattle.blk_base.specs.declared.geometry.Super.{Super}
use Rattle.blk_base.specs.declared.journal_entry.CommittedEntry.{CommittedEntry}
use Rattle.blk_base.specs.declared.journal_entry.Entry.{Entry}
use Rattle.blk_base.specs.declared.journal_entry.Entry.TheVariants.{Remap, NewPage}
use Rattle.blk_base.specs.declared.opened.Opened.{Opened}
use Rattle.blk_base.specs.declared.opened.OpenedPage.{OpenedPage}
use Rattle.blk_base.specs.declared.place.Mapping.{Mapping}
use Rattle.blk_base.specs.declared.place.Mapping.TheVariants.{Unmapped, Zero, At}
use Rattle.blk_base.specs.declared.place.PageId.{PageId}
use Rattle.blk_base.specs.declared.place.Pbn.{Pbn}
use Rattle.blk_base.specs.declared.point.Point.{Point}
use Rattle.blk_base.specs.declared.sizes.TheConstants.{PAGE_SLOTS, TREES}
use Rattle.disk_model.specs.Log.{block_at}
use Rattle.image_model.proofs.CountLaws.{is_first, is_first_or_behind, none_in_nothing}
use Rattle.image_model.proofs.MapLaws.{page_in_range, slot_says_its_mapping}
use Rattle.image_model.specs.Maps.{Image, ArePagesGood, IsReadable, head_of, mapping_in, or_else, page_at, put_by, put_last, says, target_of}
use Rattle.image_model.specs.Pages.{is_page}
use Rattle.page_codec.specs.Grammar.{IsSlot}
use Rattle.replay_counts.specs.Recovered.{HasCounts, no_points}
use Rattle.replay_counts.specs.declared.forms.SectorPoints.{SectorPoints}
use Rattle.replay_map.proofs.LinkedLaws.{below_at}
use Rattle.replay_map.proofs.OwnLaws.{page_tells}
use Rattle.replay_map.proofs.TreeLaws.{root_linked, under_root}
use Rattle.replay_map.proofs.UnderLaws.{up_none}
use Rattle.blk_base.specs.Pages.{above, page_below, root_page, slot_of, leaf_of}
use Rattle.replay_map.specs.Replayed.{AreAllLinks, HasMap}
use Rattle.replay_map.specs.declared.links.Link.{Link}
use Rattle.replay_map.specs.declared.recovered.RecoveredMap.{RecoveredMap}
use Rattle.session_opening.proofs.ListedLaws.{behind_in, in_map, in_reverse, in_roots, linked_every, linked_once, of_map, of_reverse, pairs_append, roots_in, roots_once}
use Rattle.session_opening.proofs.PlaceLaws.{block_linked, linked_has}
use Rattle.replay_map.specs.Links.{root_link}
use Rattle.session_opening.specs.Pages.{AreLinked, ArePages, roots_below}
use Rattle.session_opening.specs.Places.{AreLeading, block_by, mapping_to}
use Rattle.session_opening.specs.Starts.{AreCommits, AreCounters, AreInnerPages, ArePageBlocks, IsInnerPage, IsStart}

-- Slots of a page that is no leaf: none of them is zeros.

put_by_no_zero : (entry : Entry) (page : PageId) (slot : ℕ) (put : Mapping) → 0 < page.level → put_by entry page slot ≡ Some put → put ≡ Zero → ⊥
put_by_no_zero (Remap at old new) page slot put high is zeros = elim (page_tells page (leaf_of at.0)) [
  | inl same ↦ let level = ap (λ (p : PageId). p.level) same.1 in absurd (omega (arith, high, level))
  | inr other ↦ let gone : None ≡ Some put = rw other.0 at is in absurd (cc gone)
]
put_by_no_zero (NewPage below at) page slot put high is zeros = turn (is_page page (above below) && (slot == slot_of below)) is
  where
    turn : (b : Bool) → (if b then Some (At at) else None) ≡ Some put → ⊥
    turn true here = absurd (cc (here, zeros))
    turn false here = absurd (cc here)

put_no_zero : (window : List CommittedEntry) (page : PageId) (slot : ℕ) (put : Mapping) → 0 < page.level → put_last window page slot ≡ Some put → put ≡ Zero → ⊥
put_no_zero [] page slot put high is zeros = absurd (cc is)
put_no_zero (committed ∷ older) page slot put high is zeros =
    turn (put_by committed.entry page slot) refl is (λ found. put_no_zero older page slot put high found zeros)
  where
    turn : (o : Option Mapping) → put_by committed.entry page slot ≡ o → or_else o (put_last older page slot) ≡ Some put → (put_last older page slot ≡ Some put → ⊥) → ⊥
    turn (Some own) here found before = put_by_no_zero committed.entry page slot put high (here ∙ found) zeros
    turn None here found before = before found

mapping_again : (mapping : Mapping) → (mapping ≡ Zero → ⊥) → mapping_to (target_of mapping) ≡ mapping
mapping_again Unmapped some = refl
mapping_again Zero some = absurd (some refl)
mapping_again (At at) some = refl

-- In an image.

module _ (image : Image) (sizes : IsGeometry image.geometry) where
  abbrev g : Geometry
  g = image.geometry

  says_no_zero : (page : PageId) (at : Pbn) (slot : ℕ) → 0 < page.level → IsReadable image page at slot → says image page at slot ≡ Zero → ⊥
  says_no_zero page at slot high readable zeros = turn (put_last image.window page slot) refl
    where
      turn : (o : Option Mapping) → put_last image.window page slot ≡ o → ⊥
      turn (Some put) here = let is : put ≡ Zero = rw (says, here) at zeros in put_no_zero image.window page slot put high here is
      turn None here = elim readable [
        | inl some ↦ let gone = rw here at some in absurd (cc gone)
        | inr (mapping, is) ↦
            let stands : mapping_in (block_at image.blocks at.0) slot ≡ Zero = rw (says, here) at zeros in
            let own : mapping ≡ Zero = sym (slot_says_its_mapping (head_of image page at) (block_at image.blocks at.0) slot mapping is) ∙ stands in
            let zero_slot : IsSlot (head_of image page at) (block_at image.blocks at.0) slot Zero = subst (IsSlot (head_of image page at) (block_at image.blocks at.0) slot) own is in
            let level : page.level ≡ 0 = zero_slot.held in
            absurd (omega (arith, level, high))
      ]

  few_of : (levels index : ℕ) → levels ≤ 1 → index / PAGE_SLOTS ^ levels ≡ 0 → index < PAGE_SLOTS
  few_of zero index low is = let same = up_none index in omega (arith, same, is)
  few_of (suc zero) index low is = let one : PAGE_SLOTS ^ 1 ≡ PAGE_SLOTS = refl in let quotient : index / PAGE_SLOTS ≡ 0 = rw one at is in omega (arith, quotient)
  few_of (suc (suc n)) index low is = absurd (omega (arith, low))

  -- a page that is no leaf has a small number
  few_inner : (page : PageId) (at : Pbn) → 0 < page.level → page_at image page ≡ Some at → page.index < PAGE_SLOTS
  few_inner page at high there =
      let under = under_root image (let low = sizes.height.0 in omega (arith, low)) page at there in
      let level = under.2 in
      let most = sizes.height.1 in
      few_of under.0 page.index (omega (arith, level, most, high)) under.3

  root_there : (tree : ℕ) → tree < TREES → page_at image (root_page g tree) ≡ Some (record { 0 = block_of g (Root tree) })
  root_there tree inside = root_linked image (let low = sizes.height.0 in omega (arith, low)) tree (root_link g tree) inside (refl, refl)

  module _ (links : List Link) (are : AreAllLinks image links) where
    block_is : (page : PageId) → page.level + 1 < g.height → block_by links page ≡ page_at image page
    block_is page lower = turn (page_at image page) refl ∙ refl
      where
        stands : (at : Pbn) → block_by links page ≡ Some at → page_at image page ≡ Some at
        stands at is = ((are (record { page = page; at = at })).0 (block_linked links page at is)).1

        some : (at : Pbn) (o : Option Pbn) → page_at image page ≡ Some at → block_by links page ≡ o → IsSome o → block_by links page ≡ page_at image page
        some at (Some other) there here is = here ∙ sym (stands other here)
        some at None there here is = absurd (cc is)

        none : (o : Option Pbn) → page_at image page ≡ None → block_by links page ≡ o → block_by links page ≡ page_at image page
        none None there here = here ∙ sym there
        none (Some other) there here = let found = stands other here in absurd (cc (found, there))

        turn : (o : Option Pbn) → page_at image page ≡ o → block_by links page ≡ page_at image page
        turn (Some at) there =
            some at (block_by links page) there refl (linked_has links (record { page = page; at = at }) ((are (record { page = page; at = at })).1 (lower, there)))
        turn None there = none (block_by links page) there refl

    -- a page with these mappings is that of the image
    inner_page : (link : Link) (opened : OpenedPage) → ArePagesGood image → 0 < link.page.level → page_at image link.page ≡ Some link.at
        → opened.page ≡ link.page → opened.at ≡ link.at → AreLeading links link.page PAGE_SLOTS opened.mappings → IsInnerPage image opened
    inner_page link opened good high there named stands leading =
        let range = page_in_range image link.page link.at there in
        let level = range.1 in
        let few = few_inner link.page link.at high there in
        record {
          inner = subst (λ (p : PageId). 0 < p.level) (sym named) high;
          stands = ap (page_at image) named ∙ there ∙ ap Some (sym stands);
          size = leading.size;
          slots = λ slot inside.
              leading.each slot inside (omega (arith, few, inside))
              ∙ ap mapping_to (block_is (page_below link.page slot) (omega (arith, high, level)) ∙ below_at image link.page link.at slot high inside there)
              ∙ mapping_again (says image link.page link.at slot) (says_no_zero link.page link.at slot high ((good link.page link.at there).slots slot inside))
              ∙ ap₂ (λ (p : PageId) (b : Pbn). says image p b slot) (sym named) (sym stands);
        }

    module _ (good : ArePagesGood image) where
      linked_each : (named : List Link) (pages : List OpenedPage) → ((link : Link) → Contains named link → (0 < link.page.level) × (page_at image link.page ≡ Some link.at))
          → AreLinked links named pages → (opened : OpenedPage) → Contains pages opened → IsInnerPage image opened
      linked_each [] [] each linked opened has = absurd (none_in_nothing opened has)
      linked_each [] (page ∷ pages) each linked opened has = absurd linked
      linked_each (link ∷ named) [] each linked opened has = absurd linked
      linked_each (link ∷ named) (page ∷ pages) each linked opened has = elim (is_first_or_behind page pages opened has) [
        | inl is ↦ let here = each link (is_first link named) in subst (IsInnerPage image) is (inner_page link page good here.0 here.1 linked.0.0 linked.0.1 linked.0.2)
        | inr behind ↦ linked_each named pages (λ other has'. each other (behind_in link named other has')) linked.1 opened behind
      ]

    -- All of them.

    pub inner_pages : (pages : List OpenedPage) → ArePagesGood image → ArePages g links pages → AreInnerPages image pages
    inner_pages pages good made = record {
      each = linked_each good named pages each made.linked;
      every = λ page at high there.
          let range = page_in_range image page at there in
          let level = range.1 in
          elim (cases_lt (page.level + 1) g.height) [
            | inl lower ↦
                let some : IsSome (block_by links page) = subst (λ (o : Option Pbn). IsSome o) (sym (block_is page lower ∙ there)) refl in
                let found = made.are_inner.every page high some in
                let opened = linked_every links named pages made.linked found.0 (Contains-append_right (roots_below g TREES) made.inner found.0 found.1) in
                (opened.0, opened.1, opened.2 ∙ found.2)
            | inr top ↦
                let under = under_root image (let low = sizes.height.0 in omega (arith, low)) page at there in
                let levels = under.2 in
                let none : under.0 ≡ 0 = omega (arith, levels, top) in
                let index : page.index ≡ 0 = sym (up_none page.index) ∙ ap (λ (n : ℕ). page.index / PAGE_SLOTS ^ n) (sym none) ∙ under.3 in
                let is_level : page.level ≡ g.height - 1 = omega (arith, level, top) in
                let root : root_page g page.tree ≡ page = ap₂ (λ (l i : ℕ). record { tree = page.tree; level = l; index = i }) (sym is_level) (sym index) in
                let opened = linked_every links named pages made.linked (root_link g page.tree)
                (Contains-append_left (roots_below g TREES) made.inner (root_link g page.tree) (roots_in g TREES page.tree range.0)) in
                (opened.0, opened.1, opened.2 ∙ root)
          ];
      once = linked_once links named pages made.linked
          (pairs_append (λ (first second : Link). first.page ≡ second.page → ⊥) (roots_below g TREES) made.inner (roots_once g TREES) made.are_inner.once (λ root link is_root is_inner same.
          let found = in_roots g TREES root is_root in
          let lower = ((are link).0 (made.are_inner.each link is_inner).1).0 in
          let level = ap (λ (l : Link). l.page.level) found.2 in
          let level_too = ap (λ (p : PageId). p.level) same in
          absurd (omega (arith, lower, level, level_too))));
    }
      where
        named : List Link
        named = roots_below g TREES ++ made.inner

        each : (link : Link) → Contains named link → (0 < link.page.level) × (page_at image link.page ≡ Some link.at)
        each link has = elim (Contains-append_cases (roots_below g TREES) made.inner link has) [
          | inl is_root ↦
              let found = in_roots g TREES link is_root in
              let low = sizes.height.0 in
              let here : (0 < (root_link g found.0).page.level) × (page_at image (root_link g found.0).page ≡ Some (root_link g found.0).at) =
              (omega (arith, low), root_there found.0 found.1) in
              subst (λ (l : Link). (0 < l.page.level) × (page_at image l.page ≡ Some l.at)) found.2 here
          | inr is_inner ↦ let is = made.are_inner.each link is_inner in (is.0, ((are link).0 is.1).1)
        ]

  pub links_reversed : (links : List Link) → AreAllLinks image links → AreAllLinks image (reverse links)
  links_reversed links are link = (λ has. (are link).0 (of_reverse links link has), λ is. in_reverse links link ((are link).1 is))

  page_blocks : (links : List Link) → AreAllLinks image links → ArePageBlocks image (map (λ (link : Link). link.at) links)
  page_blocks links are at = (
    λ has.
        let found = of_map (λ (link : Link). link.at) links at has in
        let is = (are found.0).0 found.1 in
        (found.0.page, is.0, is.1 ∙ ap Some found.2),
    λ (page, level, there). in_map (λ (link : Link). link.at) links (record { page = page; at = at }) ((are (record { page = page; at = at })).1 (level, there)),
  )

  commits_are : (counts : List ℕ) (sectors : List SectorPoints) → HasCounts image counts sectors → AreCommits image (map (λ (s : SectorPoints). s.commit) sectors)
  commits_are counts sectors has = record {
    size = length-map sectors (λ (s : SectorPoints). s.commit) ∙ has.sizes;
    each = λ slab n inside below.
        let number = slab * sectors_per_slab g + n in
        ap (λ (p : Point). p.0) (get_or-map (λ (s : SectorPoints). s.commit) sectors number no_points) ∙ (has.points slab n inside below).commit;
  }

  pub is_start : (head : Super) (counts : List ℕ) (sectors : List SectorPoints) (map_is : RecoveredMap) (opened : Opened)
      → HasMap image map_is → HasCounts image counts sectors → opened.head ≡ head → ArePages g (reverse map_is.links.items) opened.pages.items → opened.counters.items ≡ counts
      → opened.commits.items ≡ map (λ (s : SectorPoints). s.commit) sectors → opened.tree_pages.items ≡ map (λ (link : Link). link.at) map_is.links.items
      → IsStart image head opened
  is_start head counts sectors map_is opened has_map has_counts same pages counters commits blocks = record {
    head_is = same;
    pages = inner_pages (reverse map_is.links.items) (links_reversed map_is.links.items has_map.links) opened.pages.items has_map.pages pages;
    counters = subst (AreCounters image) (sym counters) (record { size = has_counts.blocks; each = has_counts.stored });
    commits = subst (AreCommits image) (sym commits) (commits_are counts sectors has_counts);
    tree_pages = subst (ArePageBlocks image) (sym blocks) (page_blocks map_is.links.items has_map.links);
  }
