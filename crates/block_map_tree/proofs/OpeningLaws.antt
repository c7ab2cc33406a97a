-- The pages of an image as a tree.
use Rattle.std.specs.Prelude.{ℕ, ◌≡◌, ◌≢◌, ◌<◌, ◌≤◌, ◌+◌, ◌*◌, List, [], length, All, Contains, slice_index_or, slice_set, replicate, refl}
use Rattle.std.proofs.Common.{sym, ◌∙◌, ap, subst, inl, inr, arith}
use Rattle.std.proofs.lemmas.Bool.Decides.{eqb_tells, leb_tells}
use Rattle.std.proofs.lemmas.List.{length-set, length-replicate, get_or-replicate, get_or_default}
use Rattle.std.proofs.lemmas.List.Elements.{All-set, All-replicate, All-contains}
use Rattle.std.proofs.Math.ListN.{get_or-eq_default}
use Rattle.std.proofs.Math.Nat.{mul-le-mul_right}
use Rattle.blk_base.specs.declared.place.PageId.{PageId}
use Rattle.blk_base.specs.declared.place.Mapping.{Mapping}
use Rattle.blk_base.specs.declared.place.Mapping.TheVariants.{Unmapped}
use Rattle.blk_base.specs.declared.opened.OpenedPage.{OpenedPage}
use Rattle.blk_base.specs.Pages.{above, slot_of}
use Rattle.page_codec.specs.Grammar.{AreHeld}
use Rattle.page_codec.proofs.HeldLaws.{held_unmapped, held_above}
use Rattle.dirty_pages.specs.declared.dirty_points.DirtyPoints.{DirtyPoints}
use Rattle.dirty_pages.specs.DirtyPoints.{HasPoint, clean, dirty_points_at}
use Rattle.block_map_tree.specs.declared.forms.Forest.{Forest}
use Rattle.block_map_tree.specs.Pages.{IsForest, IsTreeOf, IsOnPath, IsRoot, IsLower, IsInner}
use Rattle.block_map_tree.specs.Tree.{Tree, as_root, by_link, trees_of, number_of, most_rows, mappings_of, mapping_of}
use Rattle.block_map_tree.specs.OpenedTree.{all_trees, IsListed, IsOpened, IsOpening, AreEnough, blank, IsTakenOver}
use Rattle.dirty_pages.proofs.PageLists.{at_set, replicate_at, listed_or_not}
use Rattle.block_map_tree.proofs.PageLaws.{one_number, in_row, above_inner}

-- one more page is taken over
pub taken_more : (f : Forest) (k n : ℕ) (opened : List OpenedPage) (old now : List (List Mapping)) (o : OpenedPage) (row : List Mapping)
    → IsOpened f opened → IsTakenOver f opened k old now → o ≡ slice_index_or opened k o → k < length opened → IsTreeOf f o.page.tree
    → n ≡ number_of f o.page → n < length now → row ≡ o.mappings → IsTakenOver f opened (k + 1) old (slice_set now n row)
taken_more f k n opened old now o row is_opened taken o_is inside own number place row_is =
    let this : (d : OpenedPage) → slice_index_or opened k d ≡ o = λ d. get_or_default opened k d o inside ∙ sym o_is in
    let own' : IsTreeOf f (slice_index_or opened k o).page.tree = subst (λ (q : OpenedPage). IsTreeOf f q.page.tree) o_is own in
    let inner : IsInner f o.page = subst (λ (q : OpenedPage). IsInner f q.page) (sym o_is) (is_opened.inner k o inside own') in
    let held : AreHeld f.geometry o.page.level o.mappings = subst (λ (q : OpenedPage). AreHeld f.geometry q.page.level q.mappings) (sym o_is) (is_opened.held k o inside own') in
    record {
      size = length-set now n row ∙ taken.size;
      held = λ all. All-set (AreHeld f.geometry 1) now n row (subst (λ (r : List Mapping). AreHeld f.geometry 1 r) (sym row_is) (held_above f.geometry o.page.level 1 o.mappings inner.level held)) (taken.held all);
      taken = λ j d below own_j later. elim (eqb_tells j k) [
        | inl same ↦
            let page : slice_index_or opened j d ≡ o = ap (λ (i : ℕ). slice_index_or opened i d) same.1 ∙ this d in
            elim (at_set now n (number_of f (slice_index_or opened j d).page) row [] place) [
              | inl hit ↦ hit.1 ∙ row_is ∙ ap (λ (q : OpenedPage). q.mappings) (sym page)
              | inr miss ↦ absurd (miss.0 (ap (λ (q : OpenedPage). number_of f q.page) page ∙ sym number))
            ]
        | inr before ↦
            let less : j < k = let b = before.1 in omega arith in
            elim (at_set now n (number_of f (slice_index_or opened j d).page) row [] place) [
              | inl hit ↦ absurd (later k less (omega arith) (subst (λ (q : OpenedPage). IsTreeOf f q.page.tree) (sym (this d)) own)
                  (ap (λ (q : OpenedPage). number_of f q.page) (this d) ∙ sym number ∙ sym hit.0))
              | inr miss ↦ miss.1 ∙ taken.taken j d less own_j (λ i up low own_i same. later i up (omega arith) own_i same)
            ]
      ];
      others = λ m none. elim (at_set now n m row [] place) [
        | inl hit ↦ absurd (none k o (omega arith) own' (ap (λ (q : OpenedPage). number_of f q.page) (this o) ∙ sym number ∙ sym hit.0))
        | inr miss ↦ miss.1 ∙ taken.others m (λ i d low own_i same. none i d (omega arith) own_i same)
      ];
    }

-- a page of another zone's trees is passed over
pub taken_past : (f : Forest) (k : ℕ) (opened : List OpenedPage) (old now : List (List Mapping)) (o : OpenedPage)
    → IsTakenOver f opened k old now → o ≡ slice_index_or opened k o → k < length opened → (IsTreeOf f o.page.tree → ⊥) → IsTakenOver f opened (k + 1) old now
taken_past f k opened old now o taken o_is inside foreign =
    let other : (j : ℕ) (d : OpenedPage) → j < k + 1 → IsTreeOf f (slice_index_or opened j d).page.tree → j < k =
    λ j d below own. elim (eqb_tells j k) [
      | inl same ↦ absurd (foreign (subst (λ (q : OpenedPage). IsTreeOf f q.page.tree)
          (ap (λ (i : ℕ). slice_index_or opened i d) same.1 ∙ get_or_default opened k d o inside ∙ sym o_is) own))
      | inr before ↦ let b = before.1 in omega arith
    ] in
    record {
      size = taken.size;
      held = taken.held;
      taken = λ j d below own later. taken.taken j d (other j d below own) own (λ i up low own_i same. later i up (omega arith) own_i same);
      others = λ m none. taken.others m (λ i d low own_i same. none i d (omega arith) own_i same);
    }

blank_slot : (count n slot : ℕ) → slice_index_or (slice_index_or (replicate count blank) n []) slot Unmapped ≡ Unmapped
unfolding blank
blank_slot count n slot =
    elim (leb_tells count n) [
      | inl past ↦
          ap (λ (r : List Mapping). slice_index_or r slot Unmapped)
          (get_or-eq_default (replicate count blank) [] (let p = past.1 in let size = length-replicate count blank in omega arith))
      | inr inside ↦
          ap (λ (r : List Mapping). slice_index_or r slot Unmapped) (get_or-replicate count n blank [] inside.1)
          ∙ replicate_at 812 slot Unmapped
    ]

blank_held : (f : Forest) (count : ℕ) → All (AreHeld f.geometry 1) (replicate count blank)
unfolding blank
blank_held f count = All-replicate (AreHeld f.geometry 1) count blank (held_unmapped f.geometry 1)

pub numbers_inside : (f : Forest) (opened : List OpenedPage) (rows count : ℕ) → IsForest f → AreEnough f opened rows → count ≡ rows * trees_of f
    → (count ≤ most_rows f.geometry.height * trees_of f) × ((page : PageId) → IsOnPath f page → 1 ≤ page.level → number_of f page < count)
    × All (λ o. IsTreeOf f o.page.tree → number_of f o.page < count) opened
numbers_inside f opened rows count forest enough is = (
  subst (λ (n : ℕ). n ≤ most_rows f.geometry.height * trees_of f) (sym is) (mul-le-mul_right {m = rows} {n = most_rows f.geometry.height} (trees_of f) enough.most),
  (λ page on level. subst (λ (n : ℕ). number_of f page < n) (sym is) (in_row f page rows forest on.tree (enough.paths page on level))),
  λ k d inside own. subst (λ (n : ℕ). number_of f (slice_index_or opened k d).page < n) (sym is)
      (in_row f (slice_index_or opened k d).page rows forest own (enough.opened_too k d inside own)),
)

pub opening : (f : Forest) (opened : List OpenedPage) (count : ℕ) (rows pages : List (List Mapping)) (dirty_points : List DirtyPoints) → IsForest f → IsOpened f opened
    → count ≤ most_rows f.geometry.height * trees_of f → ((page : PageId) → IsOnPath f page → 1 ≤ page.level → number_of f page < count)
    → rows ≡ replicate count blank → IsTakenOver f opened (length opened) rows pages → dirty_points ≡ replicate count clean
    → IsOpening f opened (record { forest = f; pages = pages; dirty_points = dirty_points })
opening f opened count rows pages dirty_points forest is_opened most paths rows_are taken dirty_points_are =
    let tree : Tree = record { forest = f; pages = pages; dirty_points = dirty_points } in
    let wide : length pages ≡ count = taken.size ∙ ap length rows_are ∙ length-replicate count blank in
    let marked : length dirty_points ≡ count = ap length dirty_points_are ∙ length-replicate count clean in
    let no_dirty_points : (number : ℕ) → dirty_points_at dirty_points number ≡ clean =
    λ number. ap (λ (m : List DirtyPoints). dirty_points_at m number) dirty_points_are ∙ replicate_at count number clean in
    let whole : (k : ℕ) (d : OpenedPage) → k < length opened → IsTreeOf f (slice_index_or opened k d).page.tree
    → mappings_of tree (slice_index_or opened k d).page ≡ (slice_index_or opened k d).mappings =
    λ k d below own. taken.taken k d below own (λ j later inside own_j same. is_opened.once k j d later inside
    (one_number f (slice_index_or opened k d).page (slice_index_or opened j d).page forest (is_opened.inner k d below own) (is_opened.inner j d inside own_j) (sym same))) in
    let listed : (o : OpenedPage) → Contains opened o → IsTreeOf f o.page.tree → mappings_of tree o.page ≡ o.mappings =
    λ o there own. subst (λ (q : OpenedPage). mappings_of tree q.page ≡ q.mappings) there.2
    (whole there.0 o there.1 (subst (λ (q : OpenedPage). IsTreeOf f q.page.tree) (sym there.2) own)) in
    let empty : (page : PageId) (slot : ℕ) → IsInner f page → (IsListed opened page → ⊥) → mapping_of tree page slot ≡ Unmapped =
    λ page slot inner none.
    let n = number_of f page in
    let row : slice_index_or pages n [] ≡ slice_index_or rows n [] =
    taken.others n (λ k d below own same. none (
      slice_index_or opened k d,
      (k, below, get_or_default opened k (slice_index_or opened k d) d below),
      one_number f (slice_index_or opened k d).page page forest (is_opened.inner k d below own) inner same,
    )) in
    ap (λ (r : List Mapping). slice_index_or r slot Unmapped) row
    ∙ ap (λ (all : List (List Mapping)). slice_index_or (slice_index_or all n []) slot Unmapped) rows_are ∙ blank_slot count n slot in
    record {
      forest = refl;
      form = record {
        forest = forest;
        room = λ page on level. let p = paths page on level in omega arith;
        most = let m = most in subst (λ (n : ℕ). n ≤ most_rows f.geometry.height * trees_of f) (sym wide) m;
        held = taken.held (subst (λ (r : List (List Mapping)). All (AreHeld f.geometry 1) r) (sym rows_are) (blank_held f count));
        dirty_points = marked ∙ sym wide;
        there = λ page point inner has. absurd (elim (subst (λ (m : DirtyPoints). HasPoint m point) (no_dirty_points (number_of f page)) has) [ inl dirty ↦ cc | inr writing ↦ cc ]);
      };
      taken = whole;
      placed = λ k d below own.
          let o = slice_index_or opened k d in
          elim (is_opened.placed k d below own) [
            | inl root ↦ as_root root.0 root.1
            | inr low ↦
                let parent = low.1.parent in
                let own' : IsTreeOf f parent.page.tree = subst (λ (p : PageId). IsTreeOf f p.tree) (sym low.1.named) own in
                let row : mappings_of tree (above o.page) ≡ parent.mappings = ap (λ (p : PageId). mappings_of tree p) (sym low.1.named) ∙ listed parent low.1.listed own' in
                by_link low.0 (ap (λ (r : List Mapping). slice_index_or r (slot_of o.page) Unmapped) row ∙ low.1.leads)
          ];
      only = λ page inner there. elim there.stands [
        | as_root root e ↦ is_opened.roots page root
        | by_link lower e ↦ elim (listed_or_not (λ (o : OpenedPage). o.page) opened (above page)) [
          | inl parent ↦
              let own : IsTreeOf f parent.0.page.tree = subst (λ (p : PageId). IsTreeOf f p.tree) (sym parent.2) lower.tree in
              let row : mappings_of tree (above page) ≡ parent.0.mappings = ap (λ (p : PageId). mappings_of tree p) (sym parent.2) ∙ listed parent.0 parent.1 own in
              is_opened.linked page there.at inner (record {
                parent = parent.0;
                listed = parent.1;
                named = parent.2;
                leads = ap (λ (r : List Mapping). slice_index_or r (slot_of page) Unmapped) (sym row) ∙ e;
              })
          | inr none ↦ absurd (
              let unlisted : IsListed opened (above page) → ⊥ = λ listed. All-contains (λ (o : OpenedPage). o.page ≢ above page) opened listed.0 none listed.1 listed.2 in
              let unmapped = empty (above page) (slot_of page) (above_inner f page forest lower) unlisted in cc)
        ]
      ];
      empty = empty;
      clean = no_dirty_points;
    }

-- what is opened of all trees is opened of those of a zone
back_root : (f : Forest) (page : PageId) → IsTreeOf f page.tree → IsRoot (all_trees f.geometry) page → IsRoot f page
back_root f page own root = record { tree = own; level = root.level; index = root.index }

back_lower : (f : Forest) (page : PageId) → IsTreeOf f page.tree → IsLower (all_trees f.geometry) page → IsLower f page
back_lower f page own lower = record { tree = own; level = lower.level; index = lower.index }

of_all : (f : Forest) (tree : ℕ) → IsTreeOf f tree → IsTreeOf (all_trees f.geometry) tree
of_all f tree own = record { inside = own.inside; own = omega arith }

on_root : (f : Forest) (page : PageId) → IsRoot f page → IsRoot (all_trees f.geometry) page
on_root f page root = record { tree = of_all f page.tree root.tree; level = root.level; index = root.index }

pub opened_in_zone : (f : Forest) (opened : List OpenedPage) → IsOpened (all_trees f.geometry) opened → IsOpened f opened
opened_in_zone f opened all = record {
  once = all.once;
  inner = λ k d inside own.
      let is = all.inner k d inside (of_all f _ own) in
      record { level = is.level; there = elim is.there [ inl root ↦ inl (back_root f _ own root) | inr lower ↦ inr (back_lower f _ own lower) ] };
  placed = λ k d inside own. elim (all.placed k d inside (of_all f _ own)) [
    | inl root ↦ inl (back_root f _ own root.0, root.1)
    | inr lower ↦ inr (back_lower f _ own lower.0, lower.1)
  ];
  held = λ k d inside own. all.held k d inside (of_all f _ own);
  roots = λ page root. all.roots page (on_root f page root);
  linked = λ page at inner led. all.linked page at
      (record {
        level = inner.level;
        there = elim inner.there [
          | inl root ↦ inl (on_root f page root)
          | inr lower ↦ inr (record { tree = of_all f page.tree lower.tree; level = lower.level; index = lower.index })
        ];
      }) led;
}
