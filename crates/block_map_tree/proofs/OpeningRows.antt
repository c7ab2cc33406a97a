-- How a zone's trees are opened: pages of an image, and the whole tree that has them, each of which is accepted, or breaks one
-- clause alone and is refused. The trees are those of `TreeRows`.
use Rattle.std.proofs.Common.{ℕ, zero, suc, ◌≡◌, ◌<◌, ◌≤◌, ◌/◌, ◌%◌, ◌^◌, ◌+◌, ◌*◌, List, [], ◌∷◌, length, slice_index_or, refl, ap, sym, subst, ◌∙◌, inl, inr, arith}
use Rattle.std.proofs.lemmas.Bool.{cases_lt}
use Rattle.std.proofs.lemmas.Bool.Decides.{eqb_tells}
use Rattle.std.proofs.lemmas.List.Elements.{All-cons, All-nil}
use Rattle.std.proofs.lemmas.Option.{none-some}
use Rattle.blk_base.proofs.PageIdLaws.{same_page}
use Rattle.blk_base.proofs.Example.{small, leaf, root as inner}
use Rattle.blk_base.specs.declared.opened.Opened.{Opened}
use Rattle.blk_base.specs.declared.opened.OpenedPage.{OpenedPage}
use Rattle.blk_base.specs.declared.place.Mapping.{Mapping}
use Rattle.blk_base.specs.declared.place.Mapping.TheVariants.{At, Unmapped, Zero}
use Rattle.blk_base.specs.declared.place.PageId.{PageId}
use Rattle.blk_base.specs.declared.place.Pbn.{Pbn}
use Rattle.blk_base.specs.Pages.{above, slot_of}
use Rattle.blk_base.specs.Forms.{point as p, pbn as b}
use Rattle.dirty_pages.specs.DirtyPoints.{clean, dirty_points_at}
use Rattle.dirty_pages.specs.declared.dirty_points.DirtyPoints.{DirtyPoints}
use Rattle.page_codec.specs.Grammar.{AreHeld}
use Rattle.block_map_tree.specs.declared.forms.Forest.{Forest}
use Rattle.block_map_tree.specs.OpenedTree.{AreEnough, IsLed, IsListed, IsOpened, IsOpening, IsPlaced, IsTakenOver, all_trees, blank, forest_of}
use Rattle.block_map_tree.specs.Pages.{IsInner, IsLower, IsOnPath, IsRoot, IsTreeOf}
use Rattle.block_map_tree.specs.Tree.{IsAt, as_root, by_link, mapping_of, mappings_of, number_of, row_of}
use Rattle.block_map_tree.proofs.TreeRows.{dirty_tree, forest, held, held_at, inner_at, inner_below, inner_is, is_root, linked, linked_is, none_behind, own, page_with, root, root_at, tall, tree_of}

-- forest_of, all_trees

forest_is : (opened : Opened) → forest_of opened 2 7 ≡ record { geometry = opened.head.geometry; zone = 2; zones = 7 }
forest_is opened = refl

all_are : all_trees small ≡ record { geometry = small; zone = 0; zones = 1 }
all_are = refl

-- The pages: the root of tree 0, the page below it, and a leaf of tree 1, which is another zone's.

abbrev root_page : OpenedPage
root_page = record { page = root; at = b 9; mappings = page_with (At (b 87)) }

abbrev inner_page : OpenedPage
inner_page = record { page = inner; at = b 87; mappings = page_with (At (b 90)) }

abbrev other_page : OpenedPage
other_page = record { page = record leaf { tree = 1 }; at = b 0; mappings = [] }

abbrev pages : List OpenedPage
pages = root_page ∷ inner_page ∷ other_page ∷ []

not_own : {A : Type 0} → IsTreeOf forest 1 → A
not_own is = absurd (let zone = is.own in omega (arith, zone))

-- IsListed

root_listed : IsListed pages root
root_listed = (root_page, (0, omega arith, refl), refl)

inner_listed : IsListed pages inner
inner_listed = (inner_page, (1, omega arith, refl), refl)

not_listed : IsListed (root_page ∷ []) inner → ⊥
not_listed (o, (zero, inside, same), named) = omega (arith, ap (λ (page : OpenedPage). page.page.level) same, ap (λ (q : PageId). q.level) named)
not_listed (o, (suc k, inside, same), named) = omega (arith, inside)

-- IsLed

led : IsLed pages inner (b 87)
led = record { parent = root_page; listed = (0, omega arith, refl); named = refl; leads = refl }

block_in : Mapping → ℕ
block_in (At x) = x.0
block_in other = 0

-- listed
led_by_none : IsLed [] inner (b 87) → ⊥
led_by_none is = omega (arith, is.listed.1)

-- named: a page that is above another one
led_by_another : IsLed (inner_page ∷ []) inner (b 90) → ⊥
led_by_another is = by_place is.parent is.listed.0 is.listed.1 is.listed.2 is.named
  where
    by_place : (parent : OpenedPage) (k : ℕ) → k < 1 → slice_index_or (inner_page ∷ []) k parent ≡ parent → parent.page ≡ above inner → ⊥
    by_place parent zero inside same named = omega (arith, ap (λ (o : OpenedPage). o.page.level) same, ap (λ (q : PageId). q.level) named)
    by_place parent (suc k) inside same named = omega (arith, inside)

-- leads
led_elsewhere : IsLed (root_page ∷ []) inner (b 88) → ⊥
unfolding block_in
led_elsewhere is = by_place is.parent is.listed.0 is.listed.1 is.listed.2 is.leads
  where
    by_place : (parent : OpenedPage) (k : ℕ) → k < 1 → slice_index_or (root_page ∷ []) k parent ≡ parent → slice_index_or parent.mappings 0 Unmapped ≡ At (b 88) → ⊥
    by_place parent zero inside same leads = omega (arith, ap block_in (ap (λ (o : OpenedPage). slice_index_or o.mappings 0 Unmapped) same ∙ leads))
    by_place parent (suc k) inside same leads = omega (arith, inside)

-- IsPlaced

root_placed : IsPlaced forest pages root_page
root_placed = inl (is_root, refl)

inner_placed : IsPlaced forest pages inner_page
inner_placed = inr (inner_below, led)

root_misplaced : (opened : List OpenedPage) → IsPlaced forest opened (record root_page { at = b 10 }) → ⊥
root_misplaced opened (inl (is, at)) = omega (arith, at)
root_misplaced opened (inr (lower, led)) = omega (arith, lower.level)

inner_misplaced : IsPlaced forest (root_page ∷ []) (record inner_page { at = b 88 }) → ⊥
inner_misplaced (inl (is, at)) = omega (arith, is.level)
inner_misplaced (inr (lower, led)) = led_elsewhere led

-- which pages there are

root_only : (page : PageId) → IsRoot forest page → root ≡ page
root_only page is =
    let inside = is.tree.inside in let zone = is.tree.own in let level = is.level in let index = is.index in
    same_page root page (omega (arith, inside, zone)) (omega (arith, level)) (omega (arith, index))

inner_only : (page : PageId) → 1 ≤ page.level → IsLower forest page → page.index ≡ 0 → inner ≡ page
inner_only page some is index =
    let inside = is.tree.inside in let zone = is.tree.own in let level = is.level in
    same_page inner page (omega (arith, inside, zone)) (omega (arith, some, level)) (omega (arith, index))

-- where a root's slot leads
first_slot : (slot : ℕ) (at : Pbn) → slot < 812 → slice_index_or (page_with (At (b 87))) slot Unmapped ≡ At at → slot ≡ 0
first_slot zero at below leads = refl
first_slot (suc zero) at below leads = absurd (cc leads)
first_slot (suc (suc k)) at below leads = let none = none_behind k (omega (arith, below)) in absurd (cc (none, leads))

-- IsOpened

is_opened : IsOpened forest pages
is_opened = record {
  once = once;
  inner = All-cons (λ (o : OpenedPage). IsTreeOf forest o.page.tree → IsInner forest o.page) root_page (inner_page ∷ other_page ∷ []) (λ is. record { level = omega arith; there = inl is_root })
      (All-cons (λ (o : OpenedPage). IsTreeOf forest o.page.tree → IsInner forest o.page) inner_page (other_page ∷ []) (λ is. inner_is)
      (All-cons (λ (o : OpenedPage). IsTreeOf forest o.page.tree → IsInner forest o.page) other_page [] not_own (All-nil (λ (o : OpenedPage). IsTreeOf forest o.page.tree → IsInner forest o.page))));
  placed = All-cons (λ (o : OpenedPage). IsTreeOf forest o.page.tree → IsPlaced forest pages o) root_page (inner_page ∷ other_page ∷ []) (λ is. root_placed)
      (All-cons (λ (o : OpenedPage). IsTreeOf forest o.page.tree → IsPlaced forest pages o) inner_page (other_page ∷ []) (λ is. inner_placed)
      (All-cons (λ (o : OpenedPage). IsTreeOf forest o.page.tree → IsPlaced forest pages o) other_page [] not_own (All-nil (λ (o : OpenedPage). IsTreeOf forest o.page.tree → IsPlaced forest pages o))));
  held = All-cons (λ (o : OpenedPage). IsTreeOf forest o.page.tree → AreHeld forest.geometry o.page.level o.mappings) root_page (inner_page ∷ other_page ∷ []) (λ is. held 2 (At (b 87)) (held_at 2 (omega arith)))
      (All-cons (λ (o : OpenedPage). IsTreeOf forest o.page.tree → AreHeld forest.geometry o.page.level o.mappings) inner_page (other_page ∷ []) (λ is. held 1 (At (b 90)) (held_at 5 (omega arith)))
      (All-cons (λ (o : OpenedPage). IsTreeOf forest o.page.tree → AreHeld forest.geometry o.page.level o.mappings) other_page [] not_own
      (All-nil (λ (o : OpenedPage). IsTreeOf forest o.page.tree → AreHeld forest.geometry o.page.level o.mappings))));
  roots = λ page is. subst (IsListed pages) (root_only page is) root_listed;
  linked = λ page at is leads. elim is.there [
    | inl top ↦ subst (IsListed pages) (root_only page top) root_listed
    | inr lower ↦ subst (IsListed pages) (inner_only page is.level lower (index_of page at is.level leads.parent leads.listed.0 leads.listed.1 leads.listed.2 leads.named leads.leads)) inner_listed
  ];
}
  where
    once : (i j : ℕ) (d : OpenedPage) → i < j → j < 3 → (slice_index_or pages i d).page ≡ (slice_index_or pages j d).page → ⊥
    once zero zero d before inside same = omega (arith, before)
    once zero (suc zero) d before inside same = omega (arith, ap (λ (q : PageId). q.level) same)
    once zero (suc (suc zero)) d before inside same = omega (arith, ap (λ (q : PageId). q.level) same)
    once (suc zero) zero d before inside same = omega (arith, before)
    once (suc zero) (suc zero) d before inside same = omega (arith, before)
    once (suc zero) (suc (suc zero)) d before inside same = omega (arith, ap (λ (q : PageId). q.level) same)
    once (suc (suc i)) zero d before inside same = omega (arith, before)
    once (suc (suc i)) (suc zero) d before inside same = omega (arith, before)
    once (suc (suc i)) (suc (suc zero)) d before inside same = omega (arith, before)
    once i (suc (suc (suc k))) d before inside same = omega (arith, inside)

    index_of : (page : PageId) (at : Pbn) → 1 ≤ page.level → (parent : OpenedPage) (k : ℕ) → k < 3 → slice_index_or pages k parent ≡ parent → parent.page ≡ above page
        → slice_index_or parent.mappings (slot_of page) Unmapped ≡ At at → page.index ≡ 0
    index_of page at some parent zero inside same named leads =
        let index : 0 ≡ page.index / 812 = ap (λ (o : OpenedPage). o.page.index) same ∙ ap (λ (q : PageId). q.index) named in
        let slot : page.index % 812 < 812 = omega arith in
        let first = first_slot (page.index % 812) at slot (ap (λ (o : OpenedPage). slice_index_or o.mappings (page.index % 812) Unmapped) same ∙ leads) in
        omega (arith, index, first)
    index_of page at some parent (suc zero) inside same named leads =
        let level : 1 ≡ page.level + 1 = ap (λ (o : OpenedPage). o.page.level) same ∙ ap (λ (q : PageId). q.level) named in
        absurd (omega (arith, level, some))
    index_of page at some parent (suc (suc zero)) inside same named leads =
        let level : 0 ≡ page.level + 1 = ap (λ (o : OpenedPage). o.page.level) same ∙ ap (λ (q : PageId). q.level) named in absurd (omega (arith, level))
    index_of page at some parent (suc (suc (suc k))) inside same named leads = absurd (omega (arith, inside))

-- once
opened_twice : IsOpened forest (root_page ∷ inner_page ∷ inner_page ∷ []) → ⊥
opened_twice is = is.once 1 2 root_page (omega arith) (omega arith) refl

-- inner
opened_with_a_leaf : IsOpened forest (root_page ∷ inner_page ∷ record { page = leaf; at = b 90; mappings = page_with Unmapped } ∷ []) → ⊥
opened_with_a_leaf is = omega (arith, (is.inner 2 root_page (omega arith) (own tall)).level)

-- placed
opened_elsewhere : IsOpened forest (record root_page { at = b 10 } ∷ inner_page ∷ []) → ⊥
opened_elsewhere is = root_misplaced (record root_page { at = b 10 } ∷ inner_page ∷ []) (is.placed 0 root_page (omega arith) (own tall))

-- held: zeros stand in leaves alone
opened_with_zeros : IsOpened forest (root_page ∷ record inner_page { mappings = page_with Zero } ∷ []) → ⊥
opened_with_zeros is = omega (arith, (is.held 1 root_page (omega arith) (own tall)).each 0 Unmapped (omega arith))

-- roots
opened_without_root : IsOpened forest [] → ⊥
opened_without_root is = omega (arith, (is.roots root is_root).1.1)

-- linked
opened_without_a_page : IsOpened forest (root_page ∷ []) → ⊥
opened_without_a_page is = not_listed (is.linked inner (b 87) inner_is (record { parent = root_page; listed = (0, omega arith, refl); named = refl; leads = refl }))

-- IsOpening: the tree has these pages

is_opening : IsOpening forest pages linked
is_opening = record {
  forest = refl;
  form = linked_is;
  taken = All-cons (λ (o : OpenedPage). IsTreeOf forest o.page.tree → mappings_of linked o.page ≡ o.mappings) root_page (inner_page ∷ other_page ∷ []) (λ is. refl)
      (All-cons (λ (o : OpenedPage). IsTreeOf forest o.page.tree → mappings_of linked o.page ≡ o.mappings) inner_page (other_page ∷ []) (λ is. refl)
      (All-cons (λ (o : OpenedPage). IsTreeOf forest o.page.tree → mappings_of linked o.page ≡ o.mappings) other_page [] not_own
      (All-nil (λ (o : OpenedPage). IsTreeOf forest o.page.tree → mappings_of linked o.page ≡ o.mappings))));
  placed = All-cons (λ (o : OpenedPage). IsTreeOf forest o.page.tree → IsAt linked o.page o.at) root_page (inner_page ∷ other_page ∷ []) (λ is. root_at)
      (All-cons (λ (o : OpenedPage). IsTreeOf forest o.page.tree → IsAt linked o.page o.at) inner_page (other_page ∷ []) (λ is. inner_at (At (b 90)) clean clean)
      (All-cons (λ (o : OpenedPage). IsTreeOf forest o.page.tree → IsAt linked o.page o.at) other_page [] not_own (All-nil (λ (o : OpenedPage). IsTreeOf forest o.page.tree → IsAt linked o.page o.at))));
  only = λ page is there. elim is.there [
    | inl top ↦ subst (IsListed pages) (root_only page top) root_listed
    | inr lower ↦ subst (IsListed pages) (inner_only page is.level lower (there_at page is.level lower there.at there.stands)) inner_listed
  ];
  empty = λ page slot is unlisted. elim is.there [
    | inl top ↦ absurd (unlisted (subst (IsListed pages) (root_only page top) root_listed))
    | inr lower ↦ nothing_in page.tree page.level page.index slot is.level lower (λ none. unlisted (subst (IsListed pages) (inner_only page is.level lower none) inner_listed))
  ];
  clean = λ number. clean_at number;
}
  where
    there_at : (page : PageId) → 1 ≤ page.level → IsLower forest page → (at : Pbn) → IsAt linked page at → page.index ≡ 0
    there_at page some lower at (as_root top here) = let level = top.level in let low = lower.level in absurd (omega (arith, level, low))
    there_at page some lower at (by_link is leads) = linked_at page.tree page.level page.index some lower at leads
      where
        linked_at : (tree level index : ℕ) → 1 ≤ level → IsLower forest (record { tree = tree; level = level; index = index }) → (at : Pbn)
            → mapping_of linked (above (record { tree = tree; level = level; index = index })) (slot_of (record { tree = tree; level = level; index = index })) ≡ At at → index ≡ 0
        linked_at (suc t) level index some lower at leads = let inside = lower.tree.inside in let zone = lower.tree.own in absurd (omega (arith, inside, zone))
        linked_at zero zero index some lower at leads = absurd (omega (arith, some))
        linked_at zero (suc (suc l)) index some lower at leads = let low = lower.level in absurd (omega (arith, low))
        linked_at zero (suc zero) index some lower at leads =
            let inside : index < 812 = lower.index in
            let slot : index % 812 < 812 = omega arith in
            let first = first_slot (index % 812) at slot leads in
            omega (arith, first, inside)

    in_none : (slot : ℕ) → slice_index_or [] slot Unmapped ≡ Unmapped
    in_none zero = refl
    in_none (suc k) = refl

    nothing_in : (tree level index slot : ℕ) → 1 ≤ level → IsLower forest (record { tree = tree; level = level; index = index }) → (index ≡ 0 → ⊥)
        → mapping_of linked (record { tree = tree; level = level; index = index }) slot ≡ Unmapped
    nothing_in (suc t) level index slot some lower other = let inside = lower.tree.inside in let zone = lower.tree.own in absurd (omega (arith, inside, zone))
    nothing_in zero zero index slot some lower other = absurd (omega (arith, some))
    nothing_in zero (suc (suc l)) index slot some lower other = let low = lower.level in absurd (omega (arith, low))
    nothing_in zero (suc zero) zero slot some lower other = absurd (other refl)
    nothing_in zero (suc zero) (suc k) slot some lower other =
        let place : (suc k + 1) * 1 + 0 ≡ suc (suc k) = omega arith in
        ap (λ (n : ℕ). slice_index_or (slice_index_or linked.pages n []) slot Unmapped) place ∙ in_none slot

    clean_at : (number : ℕ) → dirty_points_at (clean ∷ clean ∷ []) number ≡ clean
    clean_at zero = refl
    clean_at (suc zero) = refl
    clean_at (suc (suc k)) = refl

-- forest
opening_of_another_zone : IsOpening (record forest { zone = 1 }) pages linked → ⊥
opening_of_another_zone is = omega (arith, ap (λ (f : Forest). f.zone) is.forest)

-- form
opening_without_dirty_points : IsOpening forest pages (record linked { dirty_points = [] }) → ⊥
opening_without_dirty_points is = omega (arith, is.form.dirty_points)

-- taken
opening_with_another_link : IsOpening forest pages (tree_of (At (b 87)) (At (b 91)) clean clean) → ⊥
unfolding block_in
opening_with_another_link is = omega (arith, ap (λ (ms : List Mapping). block_in (slice_index_or ms 0 Unmapped)) (is.taken 1 root_page (omega arith) (own tall)))

-- placed
opening_elsewhere : IsOpening forest (root_page ∷ record inner_page { at = b 88 } ∷ []) linked → ⊥
unfolding block_in
opening_elsewhere is = never (is.placed 1 root_page (omega arith) (own tall))
  where
    never : IsAt linked inner (b 88) → ⊥
    never (as_root top here) = omega (arith, top.level)
    never (by_link lower leads) = let same : ◌≡◌ {A = Mapping} (At (b 87)) (At (b 88)) = leads in omega (arith, ap block_in same)

-- only
opening_with_another_page : IsOpening forest (root_page ∷ []) linked → ⊥
opening_with_another_page is = not_listed (is.only inner inner_is (record { at = b 87; stands = inner_at (At (b 90)) clean clean }))

-- empty: what is linked later leads nowhere yet
opening_with_a_link_of_no_page : IsOpening forest (record root_page { mappings = page_with Unmapped } ∷ []) (tree_of Unmapped (At (b 90)) clean clean) → ⊥
unfolding block_in
opening_with_a_link_of_no_page is = omega (arith, ap block_in (is.empty inner 0 inner_is not_there))
  where
    not_there : IsListed (record root_page { mappings = page_with Unmapped } ∷ []) inner → ⊥
    not_there (o, (zero, inside, same), named) = omega (arith, ap (λ (page : OpenedPage). page.page.level) same, ap (λ (q : PageId). q.level) named)
    not_there (o, (suc k, inside, same), named) = omega (arith, inside)

-- clean
opening_to_be_written : IsOpening forest pages dirty_tree → ⊥
opening_to_be_written is = none-some (p 5) (sym (ap (λ (m : DirtyPoints). m.dirty) (is.clean 1)))

-- AreEnough: two rows, for the root and the page below it

row_on_path : (page : PageId) → IsOnPath forest page → 1 ≤ page.level → row_of forest page < 2
row_on_path page on above = elim (eqb_tells (page.level + 1) 3) [
  | inl same ↦ rw same.0 (omega arith)
  | inr other ↦
      let inside = on.inside in
      let low = on.level in
      let differs = other.1 in
      let level : page.level ≡ 1 = elim (cases_lt page.level 2) [ inl below ↦ omega (arith, above, below) | inr past ↦ absurd (differs (omega (arith, past, low))) ] in
      let index = ap (λ (q : PageId). q.index) on.there in
      let first_level = ap (λ (l : ℕ). on.address / 812 / 60 / 812 ^ l) level in
      rw other.0 (omega (arith, index, first_level, inside))
]

-- so many rows are enough, up to all that there are
enough : (rows : ℕ) → 2 ≤ rows → rows ≤ 813 → AreEnough forest pages rows
enough rows some most = record {
  most = most;
  paths = λ page on above. let row = row_on_path page on above in omega (arith, row, some);
  opened_too = All-cons (λ (o : OpenedPage). IsTreeOf forest o.page.tree → row_of forest o.page < rows) root_page (inner_page ∷ other_page ∷ []) (λ is. omega (arith, some))
      (All-cons (λ (o : OpenedPage). IsTreeOf forest o.page.tree → row_of forest o.page < rows) inner_page (other_page ∷ []) (λ is. omega (arith, some))
      (All-cons (λ (o : OpenedPage). IsTreeOf forest o.page.tree → row_of forest o.page < rows) other_page [] not_own (All-nil (λ (o : OpenedPage). IsTreeOf forest o.page.tree → row_of forest o.page < rows))));
}

more_than_there_are : AreEnough forest pages 814 → ⊥
more_than_there_are are = omega (arith, are.most)

too_few_for_a_path : AreEnough forest [] 1 → ⊥
too_few_for_a_path are = omega (arith, are.paths inner (record { address = 0; inside = omega arith; level = omega arith; there = refl; tree = own tall }) (omega arith))

too_few_for_a_page : AreEnough forest (record inner_page { page = record inner { index = 1 } } ∷ []) 2 → ⊥
too_few_for_a_page are = omega (arith, are.opened_too 0 root_page (omega arith) (own tall))

-- blank

blank_has : length blank ≡ 812
unfolding blank
blank_has = refl

-- IsTakenOver: the root was, and then the page below it, of which the last one counts

abbrev nothing : List Mapping
nothing = page_with Unmapped

first_taken : IsTakenOver forest pages 1 (nothing ∷ nothing ∷ []) (page_with (At (b 87)) ∷ nothing ∷ [])
first_taken = record {
  size = refl;
  held = λ all. All-cons (AreHeld forest.geometry 1) (page_with (At (b 87))) (nothing ∷ []) (held 1 (At (b 87)) (held_at 2 (omega arith))) (All-cons (AreHeld forest.geometry 1) nothing [] (held 1 Unmapped tt) (All-nil (AreHeld forest.geometry 1)));
  taken = taken;
  others = others_stay;
}
  where
    taken : (k : ℕ) (d : OpenedPage) → k < 1 → IsTreeOf forest (slice_index_or pages k d).page.tree
        → ((j : ℕ) → k < j → j < 1 → IsTreeOf forest (slice_index_or pages j d).page.tree → number_of forest (slice_index_or pages j d).page ≡ number_of forest (slice_index_or pages k d).page → ⊥)
        → slice_index_or (page_with (At (b 87)) ∷ nothing ∷ []) (number_of forest (slice_index_or pages k d).page) [] ≡ (slice_index_or pages k d).mappings
    taken zero d below is last = refl
    taken (suc k) d below is last = absurd (omega (arith, below))

    others_stay : (n : ℕ) → ((k : ℕ) (d : OpenedPage) → k < 1 → IsTreeOf forest (slice_index_or pages k d).page.tree → number_of forest (slice_index_or pages k d).page ≡ n → ⊥)
        → slice_index_or (page_with (At (b 87)) ∷ nothing ∷ []) n [] ≡ slice_index_or (nothing ∷ nothing ∷ []) n []
    others_stay zero none = absurd (none 0 root_page (omega arith) (own tall) refl)
    others_stay (suc zero) none = refl
    others_stay (suc (suc k)) none = refl

abbrev again : List OpenedPage
again = inner_page ∷ record inner_page { mappings = page_with (At (b 91)) } ∷ []

last_taken : IsTakenOver forest again 2 (nothing ∷ nothing ∷ []) (nothing ∷ page_with (At (b 91)) ∷ [])
last_taken = record {
  size = refl;
  held = λ all. All-cons (AreHeld forest.geometry 1) nothing (page_with (At (b 91)) ∷ []) (held 1 Unmapped tt) (All-cons (AreHeld forest.geometry 1) (page_with (At (b 91))) [] (held 1 (At (b 91)) (held_at 6 (omega arith))) (All-nil (AreHeld forest.geometry 1)));
  taken = taken;
  others = others_stay;
}
  where
    taken : (k : ℕ) (d : OpenedPage) → k < 2 → IsTreeOf forest (slice_index_or again k d).page.tree
        → ((j : ℕ) → k < j → j < 2 → IsTreeOf forest (slice_index_or again j d).page.tree → number_of forest (slice_index_or again j d).page ≡ number_of forest (slice_index_or again k d).page → ⊥)
        → slice_index_or (nothing ∷ page_with (At (b 91)) ∷ []) (number_of forest (slice_index_or again k d).page) [] ≡ (slice_index_or again k d).mappings
    taken zero d below is last = absurd (last 1 (omega arith) (omega arith) (own tall) refl)
    taken (suc zero) d below is last = refl
    taken (suc (suc k)) d below is last = absurd (omega (arith, below))

    others_stay : (n : ℕ) → ((k : ℕ) (d : OpenedPage) → k < 2 → IsTreeOf forest (slice_index_or again k d).page.tree → number_of forest (slice_index_or again k d).page ≡ n → ⊥)
        → slice_index_or (nothing ∷ page_with (At (b 91)) ∷ []) n [] ≡ slice_index_or (nothing ∷ nothing ∷ []) n []
    others_stay zero none = refl
    others_stay (suc zero) none = absurd (none 0 root_page (omega arith) (own tall) refl)
    others_stay (suc (suc k)) none = refl

-- size
taken_with_one_more : IsTakenOver forest pages 1 (nothing ∷ nothing ∷ []) (page_with (At (b 87)) ∷ nothing ∷ nothing ∷ []) → ⊥
taken_with_one_more is = omega (arith, is.size)

-- held
taken_with_zeros : IsTakenOver forest (record root_page { mappings = page_with Zero } ∷ []) 1 (nothing ∷ []) (page_with Zero ∷ []) → ⊥
taken_with_zeros is = omega (arith, (is.held (All-cons (AreHeld forest.geometry 1) nothing [] (held 1 Unmapped tt) (All-nil (AreHeld forest.geometry 1))) 0 [] (omega arith)).each 0 Unmapped (omega arith))

-- taken
not_taken : IsTakenOver forest pages 1 (nothing ∷ nothing ∷ []) (nothing ∷ nothing ∷ []) → ⊥
unfolding block_in
not_taken is = omega (arith, ap (λ (ms : List Mapping). block_in (slice_index_or ms 0 Unmapped)) (is.taken 0 root_page (omega arith) (own tall) (λ j above below. absurd (omega (arith, above, below)))))

first_of_two_taken : IsTakenOver forest again 2 (nothing ∷ nothing ∷ []) (nothing ∷ page_with (At (b 90)) ∷ []) → ⊥
unfolding block_in
first_of_two_taken is = omega (arith, ap (λ (ms : List Mapping). block_in (slice_index_or ms 0 Unmapped)) (is.taken 1 root_page (omega arith) (own tall) (λ j above below. absurd (omega (arith, above, below)))))

-- others
taken_too_soon : IsTakenOver forest pages 1 (nothing ∷ nothing ∷ []) (page_with (At (b 87)) ∷ page_with (At (b 90)) ∷ []) → ⊥
unfolding block_in
taken_too_soon is = omega (arith, ap (λ (ms : List Mapping). block_in (slice_index_or ms 0 Unmapped)) (is.others 1 not_it))
  where
    not_it : (k : ℕ) (d : OpenedPage) → k < 1 → IsTreeOf forest (slice_index_or pages k d).page.tree → number_of forest (slice_index_or pages k d).page ≡ 1 → ⊥
    not_it zero d below is same = omega (arith, same)
    not_it (suc k) d below is same = omega (arith, below)
