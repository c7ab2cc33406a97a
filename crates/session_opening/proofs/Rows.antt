-- For each clause of the definitions a small case that it accepts, and one that breaks it alone and is refused.
use Rattle.std.proofs.Common.{ℕ, ◌≡◌, ◌+◌, ◌*◌, ◌^◌, List, [], ◌∷◌, length, replicate, Option, Some, None, Ok, refl, sym, ◌∙◌, ap, subst, arith, length-append, zero, suc, ◌<◌, Contains, get_or, slice_index_or}
use Rattle.std.proofs.lemmas.List.{get_or-replicate, length-map}
use Rattle.std.specs.BTreeMap.{get}
use Rattle.std.specs.declared.cmp.Ordering.TheVariants.{Less, Equal}
use Rattle.std.proofs.lemmas.List.Elements.{Contains-get_or}
use Rattle.blk_base.specs.declared.geometry.Super.{Super}
use Rattle.blk_base.specs.declared.layout.DataPlace.{DataPlace}
use Rattle.blk_base.specs.declared.opened.Opened.{Opened}
use Rattle.blk_base.specs.declared.opened.OpenedPage.{OpenedPage}
use Rattle.blk_base.specs.declared.place.Mapping.{Mapping}
use Rattle.blk_base.specs.declared.place.Mapping.TheVariants.{Unmapped, Zero, At}
use Rattle.blk_base.specs.declared.place.Pbn.{Pbn}
use Rattle.blk_base.specs.Pages.{page_order, above, slot_of}
use Rattle.blk_base.specs.declared.place.PageId.{PageId}
use Rattle.blk_base.proofs.PageIdLaws.{same_page}
use Rattle.blk_base.specs.Forms.{page, pbn}
use Rattle.blk_base.proofs.Example.{root, blank}
use Rattle.image_model.proofs.CountLaws.{is_first, none_in_nothing, one_stored}
use Rattle.image_model.proofs.Example.{small}
use Rattle.image_model.proofs.MapExample.{with_root}
use Rattle.image_model.specs.Counts.{Stores, commit_at}
use Rattle.image_model.specs.Empty.{HasNothing}
use Rattle.image_model.specs.Maps.{Image, IsTreePage}
use Rattle.page_codec.proofs.ReadLaws.{slots}
use Rattle.replay_map.specs.declared.links.Link.{Link}
use Rattle.session_opening.proofs.PageLaws.{none_added}
use Rattle.session_opening.proofs.PlaceLaws.{inner_more, none_placed}
use Rattle.session_opening.specs.declared.places.Places.{Places}
use Rattle.replay_map.specs.Links.{root_link}
use Rattle.replay_map.specs.Forms.{IsLinkOf}
use Rattle.replay_map.proofs.Rows.{root_page, read_is}
use Rattle.session_opening.specs.Pages.{AreAdded, AreLinked, ArePages, roots_below}
use Rattle.session_opening.specs.Places.{AreInner, AreLeading, ArePlaces, LeadsTo, block_by}
use Rattle.session_opening.specs.Starts.{AreCommits, AreCounters, AreInnerPages, ArePageBlocks, IsInnerPage, IsStart, AreLedTo}
use Rattle.session_opening.proofs.ListedLaws.{in_map, of_map}
use Rattle.block_map_tree.specs.OpenedTree.{IsLed}

-- An image whose root of tree 0 has a page without mappings.
abbrev rooted : Image
rooted = with_root root_page []

-- A page of tree 0 by its level and index, at a block.
abbrev link : ℕ → ℕ → ℕ → Link
link level index at = record { page = page 0 level index; at = pbn at }

-- Pages in their order.
order_by_tree : page_order (page 0 1 9) (page 1 0 0) ≡ Less
order_by_tree = refl

order_by_level : page_order (page 0 0 9) (page 0 1 0) ≡ Less
order_by_level = refl

order_by_index : page_order (page 0 1 8) (page 0 1 9) ≡ Less
order_by_index = refl

order_of_one : page_order (page 0 1 9) (page 0 1 9) ≡ Equal
order_of_one = refl

-- The newest link of a page counts, and none of another page.
newest_block : block_by (link 0 3 86 ∷ link 0 3 85 ∷ []) (page 0 0 3) ≡ Some (pbn 86)
newest_block = refl

only_block : block_by (link 0 4 86 ∷ link 0 3 85 ∷ []) (page 0 0 3) ≡ Some (pbn 85)
only_block = refl

no_block : block_by (link 0 4 86 ∷ link 1 3 86 ∷ []) (page 0 0 3) ≡ None
no_block = refl

-- Pages that are no leaves.
none_inner : AreInner [] []
none_inner = record {
  each = λ one has. absurd (none_in_nothing one has);
  every = λ other high some. absurd (cc some);
  once = λ i j d less inside. absurd (omega (arith, inside));
}

one_inner : AreInner (link 1 3 86 ∷ []) (link 1 3 86 ∷ [])
one_inner = inner_more [] (link 1 3 86) [] refl (omega arith) none_inner

-- each: no leaf, and no page without a link
a_leaf : AreInner (link 0 3 86 ∷ []) (link 0 3 86 ∷ []) → ⊥
a_leaf are = let high = (are.each (link 0 3 86) (is_first (link 0 3 86) [])).0 in omega (arith, high)

without_link : AreInner [] (link 1 3 86 ∷ []) → ⊥
without_link are = none_in_nothing (link 1 3 86) (are.each (link 1 3 86) (is_first (link 1 3 86) [])).1

-- every, and once
forgotten : AreInner (link 1 3 86 ∷ []) [] → ⊥
forgotten are = let found = are.every (page 0 1 3) (omega arith) refl in none_in_nothing found.0 found.1

twice : AreInner (link 1 3 86 ∷ []) (link 1 3 86 ∷ link 1 3 86 ∷ []) → ⊥
twice are = are.once 0 1 (link 1 3 86) (omega arith) (omega arith) refl

-- The table: blocks, and inner
module _ (places : Places) where
  nothing_placed : ((q : _) → get page_order places.blocks q ≡ None) → places.inner.items ≡ [] → ArePlaces [] places
  nothing_placed = none_placed places

  block_left_out : get page_order places.blocks (page 0 0 3) ≡ None → ArePlaces (link 0 3 86 ∷ []) places → ⊥
  block_left_out none are = let some = sym none ∙ are.blocks (page 0 0 3) in absurd (cc some)

  page_left_out : places.inner.items ≡ [] → ArePlaces (link 1 3 86 ∷ []) places → ⊥
  page_left_out none are = forgotten (rw none at are.inner)

-- Where slots lead: to the page below it, or nowhere. Of numbers past 32 bits nothing is said.
leads_down : LeadsTo (link 0 3 86 ∷ []) (page 0 1 0) 3 (At (pbn 86))
leads_down few = refl

leads_nowhere : LeadsTo (link 0 3 86 ∷ []) (page 0 1 0) 4 Unmapped
leads_nowhere few = refl

leads_not_down : LeadsTo (link 0 3 86 ∷ []) (page 0 1 0) 3 Unmapped → ⊥
leads_not_down leads = let none = leads (omega arith) in absurd (cc none)

leads_past_all : LeadsTo [] (page 0 1 (2 ^ 32)) 0 Zero
leads_past_all few = absurd (omega (arith, few))

-- size, and each
first_leading : AreLeading [] (page 0 1 0) 1 blank
first_leading = record { size = refl; each = λ slot below few. let here : slot ≡ 0 = omega (arith, below) in rw here refl }

none_leading : AreLeading [] (page 0 1 0) 0 [] → ⊥
none_leading are = let size = are.size in omega (arith, size)

not_leading : AreLeading (link 0 0 86 ∷ []) (page 0 1 0) 1 blank → ⊥
not_leading are = let none = are.each 0 (omega arith) (omega arith) in absurd (cc none)

-- Roots.
root_of_a_tree : root_link small 1 ≡ record { page = page 1 1 0; at = pbn 10 }
root_of_a_tree = refl

two_roots : roots_below small 2 ≡ root_link small 0 ∷ root_link small 1 ∷ []
two_roots = refl

-- Pages where links say.
abbrev opened : ℕ → OpenedPage
opened at = record { page = root; at = pbn at; mappings = blank }

blank_leading : AreLeading [] root 812 blank
blank_leading = record { size = refl; each = λ slot below few. get_or-replicate 812 slot Unmapped Unmapped below }

one_linked : AreLinked [] (root_link small 0 ∷ []) (opened 9 ∷ [])
one_linked = ((refl, refl, blank_leading), tt)

other_block : AreLinked [] (root_link small 0 ∷ []) (opened 10 ∷ []) → ⊥
other_block are = let at = ap (λ (b : Pbn). b.0) are.0.1 in omega (arith, at)

other_page : AreLinked [] (root_link small 1 ∷ []) (record { page = root; at = pbn 10; mappings = blank } ∷ []) → ⊥
other_page are = let tree = ap (λ (p : _). p.tree) are.0.0 in omega (arith, tree)

one_missing : AreLinked [] (root_link small 0 ∷ []) [] → ⊥
one_missing are = are

one_too_many : AreLinked [] [] (opened 9 ∷ []) → ⊥
one_too_many are = are

nothing_added : AreAdded [] [] [] []
nothing_added = none_added [] []

one_lost : AreAdded [] [] (opened 9 ∷ []) [] → ⊥
one_lost (pages, linked, grown) = let size = ap (λ (ps : List OpenedPage). length ps) grown ∙ length-append (opened 9 ∷ []) pages in omega (arith, size)

no_pages : ArePages small [] [] → ⊥
no_pages are = are.linked

-- In that image.

root_is_inner : IsInnerPage rooted (opened 9)
root_is_inner = record { inner = omega arith; stands = refl; size = refl; slots = read_is.each }

-- inner, stands, size and slots
leaf_is_inner : IsInnerPage rooted (record { page = page 0 0 0; at = pbn 9; mappings = blank }) → ⊥
leaf_is_inner is = let high = is.inner in omega (arith, high)

elsewhere : IsInnerPage rooted (opened 10) → ⊥
elsewhere is = let at = ap block_in is.stands in omega (arith, at)
  where
    block_in : Option Pbn → ℕ
    block_in None = 0
    block_in (Some b) = b.0

shorter : IsInnerPage rooted (record { page = root; at = pbn 9; mappings = [] }) → ⊥
shorter is = let size = is.size in omega (arith, size)

other_slot : IsInnerPage rooted (record { page = root; at = pbn 9; mappings = Zero ∷ replicate 811 Unmapped }) → ⊥
other_slot is = let same : Zero ≡ Unmapped = is.slots 0 (omega arith) ∙ sym (read_is.each 0 (omega arith)) in absurd (cc same)

-- each, every and once; that pages which are made by the links are those of an image is a law (`StartLaws`, `inner_pages`)
with_a_leaf : (pages : List OpenedPage) → AreInnerPages rooted (record { page = page 0 0 0; at = pbn 9; mappings = blank } ∷ pages) → ⊥
with_a_leaf pages are = leaf_is_inner (are.each _ (is_first _ pages))

without_a_root : AreInnerPages rooted [] → ⊥
without_a_root are = let found = are.every root (pbn 9) (omega arith) refl in none_in_nothing found.0 found.1

root_twice : (pages : List OpenedPage) → AreInnerPages rooted (opened 9 ∷ opened 9 ∷ pages) → ⊥
root_twice pages are = are.once 0 1 (opened 9) (omega arith) (omega arith) refl

-- Of an image of these sizes to which nothing was written.
module _ (blocks : List (List ℕ)) (nothing : HasNothing (record { geometry = small; blocks = blocks; window = [] })) where
  abbrev unused : Image
  unused = record { geometry = small; blocks = blocks; window = [] }

  abbrev first_block : DataPlace
  first_block = record { slab = 0; offset = 0 }

  counters_are : AreCounters unused (replicate 64 0)
  counters_are = record {
    size = refl;
    each = λ place inside. let n = place.slab * 64 + place.offset in let slab = inside.0 in let offset = inside.1 in
        subst (λ (count : ℕ). Stores unused place (Ok count)) (sym (get_or-replicate 64 n 0 0 (omega (arith, slab, offset)))) (nothing.stored place inside);
  }

  -- size, and each
  fewer_counters : AreCounters unused [] → ⊥
  fewer_counters are = let size = are.size in omega (arith, size)

  other_counter : AreCounters unused (1 ∷ replicate 63 0) → ⊥
  other_counter are =
      let same = one_stored unused first_block (Ok 1) (Ok 0) (are.each first_block (omega arith, omega arith)) (nothing.stored first_block (omega arith, omega arith)) in
      absurd (cc same)

  -- a page's block is there where it has a page
  no_page_blocks : ((at : Pbn) → IsTreePage unused at → ⊥) → ArePageBlocks unused []
  no_page_blocks none at = (λ has. absurd (none_in_nothing at has), λ is. absurd (none at is))

  a_page_block : ((at : Pbn) → IsTreePage unused at → ⊥) → ArePageBlocks unused (pbn 85 ∷ []) → ⊥
  a_page_block none are = none (pbn 85) ((are (pbn 85)).0 (is_first (pbn 85) []))

  page_block_left_out : IsTreePage unused (pbn 85) → ArePageBlocks unused [] → ⊥
  page_block_left_out is are = none_in_nothing (pbn 85) ((are (pbn 85)).1 is)

  -- the commit point of its one sector
  commits_are : commit_at small blocks 0 0 ≡ 7 → AreCommits unused (record { 0 = 7 } ∷ [])
  commits_are is = record {
    size = refl;
    each = λ slab n inside below. let first : slab ≡ 0 = omega (arith, inside) in let number : n ≡ 0 = omega (arith, below) in rw (first, number) (sym is);
  }

  fewer_commits : AreCommits unused [] → ⊥
  fewer_commits are = let size = are.size in omega (arith, size)

  other_commit : commit_at small blocks 0 0 ≡ 7 → AreCommits unused (record { 0 = 8 } ∷ []) → ⊥
  other_commit is are = let same : 8 ≡ 7 = are.each 0 0 (omega arith) (omega arith) ∙ is in omega (arith, same)

-- The blocks to which opened pages lead: the first slot of the root of tree 0 leads to a leaf at 90.
abbrev leading : ℕ → OpenedPage
leading block = record { page = page 0 1 0; at = pbn 9; mappings = At (pbn block) ∷ [] }

leaf_led : IsLed (leading 90 ∷ []) (page 0 0 0) (pbn 90)
leaf_led = record { parent = leading 90; listed = (0, omega arith, refl); named = refl; leads = refl }

only_leaf : (p : PageId) (at : Pbn) → IsLed (leading 90 ∷ []) p at → (p ≡ page 0 0 0) × (at ≡ pbn 90)
only_leaf p at is = from is.parent is.listed is.named is.leads
  where
    by : (slot : ℕ) → slot_of p ≡ slot → page 0 1 0 ≡ above p → slice_index_or (At (pbn 90) ∷ []) slot Unmapped ≡ At at → (p ≡ page 0 0 0) × (at ≡ pbn 90)
    by zero first up there =
        let tree = ap (λ (q : PageId). q.tree) up in
        let level = ap (λ (q : PageId). q.level) up in
        let index = ap (λ (q : PageId). q.index) up in
        let block : At (pbn 90) ≡ At at = there in (
          same_page p (page 0 0 0) (sym tree) (omega (arith, level)) (omega (arith, index, first)),
          sym (ap (λ (n : ℕ). pbn n) (ap block_number block)),
        )
      where
        block_number : Mapping → ℕ
        block_number Unmapped = 0
        block_number Zero = 0
        block_number (At b) = b.0
    by (suc k) other up there = absurd cc

    from : (parent : OpenedPage) → Contains (leading 90 ∷ []) parent → parent.page ≡ above p → slice_index_or parent.mappings (slot_of p) Unmapped ≡ At at
        → (p ≡ page 0 0 0) × (at ≡ pbn 90)
    from parent (zero, inside, same) named leads =
        by (slot_of p) refl (ap (λ (o : OpenedPage). o.page) same ∙ named) (ap (λ (o : OpenedPage). slice_index_or o.mappings (slot_of p) Unmapped) same ∙ leads)
    from parent (suc k, inside, same) named leads = absurd (omega (arith, inside))

leaf_link : IsLinkOf small (link 0 0 90)
leaf_link = record {
  page = record { tree = omega arith; level = omega arith; index = omega arith };
  below = omega arith;
  data_block = record { slab = 0; offset = 5; inside = (omega arith, omega arith); stands = refl };
}

one_block : AreLedTo small (leading 90 ∷ []) (pbn 90 ∷ [])
one_block = record {
  links = link 0 0 90 ∷ [];
  each = each;
  every = λ p at is.
      let only = only_leaf p at is in
      subst (λ (q : PageId). Contains (link 0 0 90 ∷ []) (record { page = q; at = at })) (sym only.0)
      (subst (λ (b : Pbn). Contains (link 0 0 90 ∷ []) (record { page = page 0 0 0; at = b })) (sym only.1) (is_first (link 0 0 90) []));
  once = λ i j d less inside. absurd (omega (arith, less, inside));
  listed = refl;
}
  where
    each : (l : Link) → Contains (link 0 0 90 ∷ []) l → IsLinkOf small l × IsLed (leading 90 ∷ []) l.page l.at
    each l (zero, inside, same) = subst (λ (x : Link). IsLinkOf small x × IsLed (leading 90 ∷ []) x.page x.at) same (leaf_link, leaf_led)
    each l (suc k, inside, same) = absurd (omega (arith, inside))

-- every: one is left out
left_out : AreLedTo small (leading 90 ∷ []) [] → ⊥
left_out are =
    let found = are.every (page 0 0 0) (pbn 90) leaf_led in
    none_in_nothing (pbn 90) (subst (λ (blocks : List Pbn). Contains blocks (pbn 90)) (sym are.listed) (in_map (λ (l : Link). l.at) are.links (link 0 0 90) found))

-- each: none leads there, or there is no data block
led_elsewhere : AreLedTo small (leading 90 ∷ []) (pbn 91 ∷ []) → ⊥
led_elsewhere are =
    let found = of_map (λ (l : Link). l.at) are.links (pbn 91) (subst (λ (blocks : List Pbn). Contains blocks (pbn 91)) are.listed (is_first (pbn 91) [])) in
    let only = only_leaf found.0.page found.0.at (are.each found.0 found.1).1 in
    omega (arith, ap (λ (b : Pbn). b.0) (sym only.1 ∙ found.2))

led_to_a_root : AreLedTo small (leading 10 ∷ []) (pbn 10 ∷ []) → ⊥
led_to_a_root are =
    let found = of_map (λ (l : Link). l.at) are.links (pbn 10) (subst (λ (blocks : List Pbn). Contains blocks (pbn 10)) are.listed (is_first (pbn 10) [])) in
    let block = (are.each found.0 found.1).0.data_block in
    omega (arith, block.stands, ap (λ (b : Pbn). b.0) found.2)

-- once: the block of one page twice
block_twice : AreLedTo small (leading 90 ∷ []) (pbn 90 ∷ pbn 90 ∷ []) → ⊥
block_twice are =
    let size : 2 ≡ length are.links = ap (λ (blocks : List Pbn). length blocks) are.listed ∙ length-map are.links (λ (l : Link). l.at) in
    let d = link 0 0 90 in
    let named : (k : ℕ) → k < 2 → (get_or are.links k d).page ≡ page 0 0 0 = λ k below.
    let there = are.each (get_or are.links k d) (Contains-get_or are.links k d (omega (arith, size, below))) in
    (only_leaf (get_or are.links k d).page (get_or are.links k d).at there.1).0 in
    are.once 0 1 d (omega arith) (omega (arith, size)) (named 0 (omega arith) ∙ sym (named 1 (omega arith)))

-- What a session starts with: another superblock, pages, counters, commit points or blocks of pages are refused.
module _ (head : Super) (start : Opened) where
  other_head : start.head.start ≡ head.start + 1 → IsStart rooted head start → ⊥
  other_head next is = let same = ap (λ (h : Super). h.start) is.head_is in omega (arith, next, same)

  no_inner_pages : start.pages.items ≡ [] → IsStart rooted head start → ⊥
  no_inner_pages none is = without_a_root (rw none at is.pages)

  no_counters : start.counters.items ≡ [] → IsStart rooted head start → ⊥
  no_counters none is = let size = (rw none at is.counters).size in omega (arith, size)

  no_commits : start.commits.items ≡ [] → IsStart rooted head start → ⊥
  no_commits none is = let size = (rw none at is.commits).size in omega (arith, size)

  no_blocks : IsTreePage rooted (pbn 85) → start.tree_pages.items ≡ [] → IsStart rooted head start → ⊥
  no_blocks page_there none is = none_in_nothing (pbn 85) ((rw none at is.tree_pages (pbn 85)).1 page_there)
