-- The trees of a logical zone: a page that isn't linked there isn't there.
use Rattle.std.proofs.Common.{ℕ, zero, suc, ◌+◌, ◌-◌, ◌<◌, ◌≡◌, ◌≢◌, ◌/◌, ◌%◌, ◌⊎◌, true, false, Option, None, Some, IsSome, is_some, List, ◌∷◌, refl, ap, sym, ◌∙◌, subst, inl, inr, arith}
use Rattle.std.proofs.lemmas.Bool.{cases_Bool}
use Rattle.core_laws.proofs.logical.PagePaths.{above_path}
use Rattle.data_vio.specs.declared.items.Asks.TheVariants.{Write}
use Rattle.blk_base.specs.declared.place.Lba.{Lba}
use Rattle.core_laws.proofs.Common.{Asks, asked, Logged, Makes, NewPage, Remaps, Session, Trace, Sets, Happening, applied, eqb_tells, logical_number, option_cases, same_Some, zone_of}
use Rattle.core_laws.proofs.kept.Keys.{happens_in}
use Rattle.blk_base.specs.declared.geometry.Geometry.{Geometry}
use Rattle.blk_base.specs.declared.place.PageId.{PageId}
use Rattle.blk_base.specs.declared.place.Pbn.{Pbn}
use Rattle.blk_base.specs.declared.sizes.TheConstants.{PAGE_SLOTS, TREES}
use Rattle.blk_base.specs.Regions.{IsDataBlock}
use Rattle.blk_base.specs.declared.place.Mapping.TheVariants.{At}
use Rattle.dirty_pages.specs.DirtyPoints.{changed_at}
use Rattle.block_map_tree.proofs.PageLaws.{root_or_lower}
use Rattle.block_map_tree.proofs.TreeLaws.{links}
use Rattle.block_map_tree.specs.Pages.{IsOnPath, IsTreeOf}
use Rattle.block_map_tree.specs.Tree as trees
use Rattle.block_map_tree.specs.Tree.{Tree, IsLinkable, IsTree, Links, with_change, with_mapping}
use Rattle.core_model.proofs.TreeLinks.{linked_there}
use Rattle.core_model.proofs.TreeLinks as walks
use Rattle.image_model.specs.Pages.{is_page}
use Rattle.blk_base.specs.Pages.{above, slot_of, leaf_of, page_above}
use Rattle.core_model.specs.PageLinks.{IsThere, Lacks, MayLack, page_in}
use Rattle.core_model.specs.PageTrees.{HasPath, IsMapTree, MayLink, leaf_at, least_point, link_at, missing_at, missing_from}

-- The first page that isn't linked, of so many levels: whatever is above it is.
pub record IsFirst (n : ℕ) (tree : Tree) (a : ℕ) (page : PageId) : Type 0 where
  pub level : ℕ
  pub low : level < n
  pub page_is : page ≡ page_above level a
  pub unlinked : is_some (link_at tree (page_above level a)) ≡ false
  pub up : (suc level ≡ n) ⊎ ((suc level < n) × (is_some (link_at tree (page_above (suc level) a)) ≡ true))

first_missing : (n : ℕ) (tree : Tree) (a : ℕ) (page : PageId) → missing_from n tree a ≡ Some page → IsFirst n tree a page
first_missing zero tree a page is = absurd cc
first_missing (suc level) tree a page is = elim (cases_Bool (is_some (link_at tree (page_above level a)))) [
  | inl there ↦
      let rest = first_missing level tree a page (rw there at is) in
      let low = rest.low in
      record {
        level = rest.level;
        low = omega (arith, low);
        page_is = rest.page_is;
        unlinked = rest.unlinked;
        up = elim rest.up [
          | inl top ↦ inr (omega (arith, low), subst (λ (k : ℕ). is_some (link_at tree (page_above k a)) ≡ true) (sym top) there)
          | inr linked ↦ let below = linked.0 in inr (omega (arith, below), linked.1)
        ];
      }
  | inr none ↦ record { level = level; low = omega arith; page_is = same_Some _ _ (sym (rw none at is)); unlinked = none; up = inl refl }
]

-- a page of a path through the zone's trees may be linked, where it is no root
pub path_linkable : (tree : Tree) (a level : ℕ) → HasPath tree a → level + 1 < tree.forest.geometry.height → IsLinkable tree (page_above level a)
path_linkable tree a level path low = record {
  path = record { address = a; inside = path.inside; level = omega arith; there = refl; tree = path.own };
  lower = λ root. (let top = root.level in omega (arith, top, low));
}

nothing_there : (o p : Option Pbn) → is_some o ≡ false → o ≡ p → IsSome p → ⊥
nothing_there None None none same some = absurd cc
nothing_there (Some x) p none same some = absurd cc
nothing_there None (Some x) none same some = absurd cc

-- the path of a request leads through a tree of its home
pub has_path : (s : Session) (zone : ℕ) (t : Trace) (tree : Tree) (a : ℕ) → IsMapTree s.sizes.geometry zone s.sizes.zones s.links (applied t) tree → a < s.sizes.geometry.logical → zone_of s.sizes.zones a ≡ zone
    → HasPath tree a
has_path s zone t tree a is low home =
    let below : a / PAGE_SLOTS % TREES < 60 = omega arith in
    record {
      inside = subst (λ f. a < f.geometry.logical) (sym is.forest_is) low;
      own = subst (λ f. IsTreeOf f (a / PAGE_SLOTS % TREES)) (sym is.forest_is) (record { inside = below; own = home });
    }

-- the page that a write lacks is of the path of its address, and no root
pub lacked_path : (height : ℕ) (q : Asks) (at : Lba) (bytes : List ℕ) (page : PageId) → q ≡ Write → MayLack height (asked q at bytes) page → (page ≡ page_above page.level at.0) × (page.level + 1 < height)
lacked_path height q at bytes page is k = rw is at k

-- A page that a path lacks, in the trees of a zone: it may be linked, no entry links it, and the page above it is there.
pub record IsLacking (height : ℕ) (links : PageId → Option Pbn) (es : List Logged) (tree : Tree) (a : ℕ) (page : PageId) : Type 0 where
  pub on_path : page ≡ page_above page.level a
  pub lower : page.level + 1 < height
  pub linkable : IsLinkable tree page
  pub unlinked : link_at tree page ≡ None
  pub up : IsThere height links es (above page)

none_is_not : (o : Option Pbn) → is_some o ≡ false → o ≡ None
none_is_not None none = refl
none_is_not (Some x) none = absurd cc

some_is_some : (o p : Option Pbn) → is_some o ≡ true → o ≡ p → IsSome p
some_is_some None p some same = absurd cc
some_is_some (Some x) None some same = absurd cc
some_is_some (Some x) (Some y) some same = refl

some_linked : (o p : Option Pbn) → o ≡ p → IsSome p → is_some o ≡ true
some_linked (Some x) p same some = refl
some_linked None None same some = absurd cc
some_linked None (Some y) same some = absurd cc

module _ (g : Geometry) (zone zones : ℕ) (links : PageId → Option Pbn) (es : List Logged) (tree : Tree) (a : ℕ) (is : IsMapTree g zone zones links es tree) (path : HasPath tree a) where
  height_is : tree.forest.geometry.height ≡ g.height
  height_is = ap (λ f. f.geometry.height) is.forest_is

  pub lacking_page : (page : PageId) → missing_at tree a ≡ Some page → IsLacking g.height links es tree a page
  lacking_page page missing =
      let first = first_missing (tree.forest.geometry.height - 1) tree a page missing in
      let height = height_is in
      let low = first.low in
      let level = ap (λ (p : PageId). p.level) first.page_is in
      let below : first.level + 1 < tree.forest.geometry.height = omega (arith, low) in
      record {
        on_path = first.page_is ∙ ap (λ (n : ℕ). page_above n a) (sym level);
        lower = omega (arith, below, height, level);
        linkable = subst (IsLinkable tree) (sym first.page_is) (path_linkable tree a first.level path below);
        unlinked = none_is_not (link_at tree page) (subst (λ (p : PageId). is_some (link_at tree p) ≡ false) (sym first.page_is) first.unlinked);
        up = elim first.up [
          | inl top ↦ inl (omega (arith, top, below, height, level))
          | inr linked ↦
              let higher = linked.0 in
              let upper : suc first.level + 1 < tree.forest.geometry.height = omega (arith, higher) in
              let there = some_is_some (link_at tree (page_above (suc first.level) a)) (page_in links es (page_above (suc first.level) a)) linked.1
              (is.linked (page_above (suc first.level) a) (path_linkable tree a (suc first.level) path upper)) in
              inr (subst (λ (p : PageId). IsSome (page_in links es p)) (sym (ap above first.page_is ∙ above_path first.level a)) there)
        ];
      }

  -- so the page isn't there
  pub lacks_page : (page : PageId) → missing_at tree a ≡ Some page → IsThere g.height links es page → ⊥
  lacks_page page missing there =
      let lacking = lacking_page page missing in
      elim there [
        | inl root ↦ let lower = lacking.lower in absurd (omega (arith, root, lower))
        | inr linked ↦ nothing_there (link_at tree page) (page_in links es page) (ap is_some lacking.unlinked) (is.linked page lacking.linkable) linked
      ]

  -- a path that lacks no page has its leaf
  leaf_linkable : IsLinkable tree (leaf_of a)
  leaf_linkable = let low = is.form.forest.sizes.height in let height = height_is in path_linkable tree a 0 path (omega (arith, low))

  all_linked : (n level : ℕ) → level < n → missing_from n tree a ≡ None → is_some (link_at tree (page_above level a)) ≡ true
  all_linked zero level below none = absurd (omega (arith, below))
  all_linked (suc n) level below none = elim (cases_Bool (is_some (link_at tree (page_above n a)))) [
    | inl there ↦ elim (eqb_tells level n) [
      | inl same ↦ subst (λ (k : ℕ). is_some (link_at tree (page_above k a)) ≡ true) (sym same.1) there
      | inr other ↦ let apart = other.1 in all_linked n level (omega (arith, below, apart)) (rw there at none)
    ]
    | inr lacking ↦ absurd (let some : Some (page_above n a) ≡ None = rw lacking at none in cc)
  ]

  pub has_leaf : missing_at tree a ≡ None → IsThere g.height links es (leaf_of a)
  has_leaf none =
      let low = is.form.forest.sizes.height in
      inr (some_is_some (link_at tree (leaf_of a)) (page_in links es (leaf_of a)) (all_linked (tree.forest.geometry.height - 1) 0 (omega (arith, low)) none) (is.linked (leaf_of a) leaf_linkable))

  pub lacks_some : is_some (missing_at tree a) ≡ true → Lacks g.height links es a
  lacks_some some = elim (option_cases (missing_at tree a)) [
    | inl none ↦ absurd (let no : false ≡ true = rw none at some in cc)
    | inr page ↦
        let lacking = lacking_page page.0 page.1 in
        (page.0.level, lacking.lower, λ there. lacks_page page.0 page.1 (subst (IsThere g.height links es) (sym lacking.on_path) there))
  ]

  -- the leaf of its path, where it has all pages, or a page that it lacks
  none_leads : (o : Option PageId) → missing_at tree a ≡ o → leaf_at tree a ≡ None → Lacks g.height links es a
  none_leads (Some page) lacked none = lacks_some (ap is_some lacked)
  none_leads None all none =
      let there = all_linked (tree.forest.geometry.height - 1) 0 (let tall = is.form.forest.sizes.height in omega (arith, tall)) all in
      let nothing : link_at tree (leaf_of a) ≡ None = rw all at none in absurd (let no = ap is_some nothing in cc)

  pub leaf_lacks : leaf_at tree a ≡ None → Lacks g.height links es a
  leaf_lacks none = none_leads (missing_at tree a) refl none

  some_leads : (o : Option PageId) (x : Pbn) → missing_at tree a ≡ o → leaf_at tree a ≡ Some x → link_at tree (leaf_of a) ≡ Some x
  some_leads None x all found = rw all at found
  some_leads (Some page) x lacked found = absurd (let no : None ≡ Some x = rw lacked at found in cc)

  pub leaf_linked : (x : Pbn) → leaf_at tree a ≡ Some x → page_in links es (leaf_of a) ≡ Some x
  leaf_linked x found = sym (is.linked (leaf_of a) leaf_linkable) ∙ some_leads (missing_at tree a) x refl found

  -- A page of the path may be linked, where the one above it is there.
  there_above : (page : PageId) → page ≡ page_above page.level a → page.level + 1 < g.height → IsThere g.height links es (above page) → trees.IsThere tree (above page)
  there_above page on_path lower up =
      let height = height_is in
      let upper : above page ≡ page_above (suc page.level) a = ap above on_path ∙ above_path page.level a in
      let low : suc page.level < tree.forest.geometry.height = omega (arith, lower, height) in
      subst (trees.IsThere tree) (sym upper) (elim (root_or_lower tree.forest (page_above (suc page.level) a) is.form.forest (on_path_at low)) [
        | inl root ↦ record { at = _; stands = trees.as_root root refl }
        | inr under ↦ elim (subst (IsThere g.height links es) upper up) [
          | inl top ↦ let level = under.level in absurd (omega (arith, top, level, height))
          | inr some ↦
              let below = under.level in
              let linkable = path_linkable tree a (suc page.level) path (omega (arith, below)) in
              linked_there tree (page_above (suc page.level) a) under (some_linked _ _ (is.linked (page_above (suc page.level) a) linkable) some)
        ]
      ])
    where
      on_path_at : suc page.level < tree.forest.geometry.height → IsOnPath tree.forest (page_above (suc page.level) a)
      on_path_at low = walks.on_path tree a (suc page.level) path low

  pub may_link : (page : PageId) → page ≡ page_above page.level a → page.level + 1 < g.height → IsThere g.height links es (above page) → (x : Pbn) → IsDataBlock g x.0 → MayLink tree page x
  may_link page on_path lower up x is_data =
      let height = height_is in record {
        linkable = subst (IsLinkable tree) (sym on_path) (path_linkable tree a page.level path (omega (arith, lower, height)));
        up = there_above page on_path lower up;
        is_data = subst (λ f. IsDataBlock f.geometry x.0) (sym is.forest_is) is_data;
      }

-- the tree with one more link
abbrev pub linked_tree : Tree → PageId → Pbn → Tree
linked_tree tree page x = with_change (with_mapping tree (above page) (slot_of page) (At x)) (above page) (changed_at least_point)

pub link_made : (tree : Tree) (page : PageId) (x : Pbn) → IsTree tree → MayLink tree page x → Links tree (linked_tree tree page x) page x least_point
link_made tree page x form may = links tree page x least_point form may.linkable may.up may.is_data

-- Over what happens in another zone a page of this one's trees stays where it is.
module _ (s : Session) (zone : ℕ) (tree : Tree) where
  abbrev Is : Trace → Type 0
  Is t = IsMapTree s.sizes.geometry zone s.sizes.zones s.links (applied t) tree

  pub same_tree : (t u : Trace) → ((page : PageId) → page_in s.links (applied t) page ≡ page_in s.links (applied u) page) → Is t → Is u
  same_tree t u same is = record { forest_is = is.forest_is; form = is.form; linked = λ page linkable. is.linked page linkable ∙ same page }

  -- a page that may be linked in the zone's trees is of these
  pub tree_home : (t : Trace) (page : PageId) → Is t → IsLinkable tree page → page.tree % s.sizes.zones ≡ zone
  tree_home t page is linkable = (subst (λ f. IsTreeOf f page.tree) is.forest_is linkable.path.tree).own

  other_tree : (t : Trace) (p : NewPage) (page : PageId) → Is t → IsLinkable tree page → logical_number zone ≢ logical_number (p.page.tree % s.sizes.zones) → is_page p.page page ≡ false
  other_tree t p page is linkable off =
      let own = tree_home t page is linkable in
      elim (eqb_tells p.page.tree page.tree) [
        | inl same ↦ absurd (off (ap logical_number (sym own ∙ ap (λ (n : ℕ). n % s.sizes.zones) (sym same.1))))
        | inr other ↦ rw other.0 refl
      ]

  pub tree_over : (h : Happening) (t : Trace) → logical_number zone ≢ happens_in s.sizes h → Is t → Is (h ∷ t)
  tree_over (Sets (Makes p)) t off is = record {
    forest_is = is.forest_is;
    form = is.form;
    linked = λ page linkable. is.linked page linkable ∙ sym (rw (other_tree t p page is linkable off) refl);
  }
  tree_over (Sets (Remaps e)) t off is = same_tree t (Sets (Remaps e) ∷ t) (λ page. refl) is
  tree_over other t off is = is
