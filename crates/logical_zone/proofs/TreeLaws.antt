-- The trees of a logical zone when a session begins: they lead where the pages lead that were opened.
use Rattle.std.proofs.Common.{ℕ, zero, suc, ◌≡◌, nat_lt, true, false, List, [], ◌∷◌, slice_index_or, Contains, refl, ap, sym, ◌∙◌, subst, inl, inr, arith}
use Rattle.std.proofs.lemmas.Bool.{cases_Bool, lt-ltb}
use Rattle.std.proofs.lemmas.List.Elements.{All-contains}
use Rattle.blk_base.specs.Pages.{above, slot_of}
use Rattle.blk_base.specs.declared.geometry.Geometry.{Geometry}
use Rattle.blk_base.specs.declared.opened.OpenedPage.{OpenedPage}
use Rattle.blk_base.specs.declared.place.Mapping.{Mapping}
use Rattle.blk_base.specs.declared.place.Mapping.TheVariants.{Unmapped}
use Rattle.blk_base.specs.declared.place.PageId.{PageId}
use Rattle.blk_base.specs.declared.sizes.TheConstants.{TREES}
use Rattle.block_map_tree.proofs.PageLaws.{above_inner}
use Rattle.block_map_tree.specs.OpenedTree.{IsListed, IsOpening}
use Rattle.block_map_tree.specs.Pages.{IsForest, IsInner, IsLower, IsTreeOf}
use Rattle.block_map_tree.specs.Tree.{Tree, mapping_of, mappings_of}
use Rattle.block_map_tree.specs.declared.forms.Forest.{Forest}
use Rattle.image_model.specs.Pages.{is_page}
use Rattle.core_model.proofs.TreeLinks.{lower_of, page_is, page_itself}
use Rattle.core_model.specs.PageLinks.{block_in, led_by, opened_page}
use Rattle.core_model.specs.PageTrees.{IsMapTree, link_at}

-- The first of these pages that is the one above says where it leads; where none is, it leads nowhere.
leads_as : (tree : Tree) (page : PageId) (pages : List OpenedPage) → ((o : OpenedPage) → Contains pages o → o.page ≡ above page → mappings_of tree o.page ≡ o.mappings)
    → ((IsListed pages (above page) → ⊥) → mapping_of tree (above page) (slot_of page) ≡ Unmapped) → link_at tree page ≡ led_by pages page
leads_as tree page [] taken none = ap block_in (none (λ listed. let there = listed.1 in omega (arith, there.1)))
leads_as tree page (o ∷ others) taken none = elim (cases_Bool (is_page o.page (above page))) [
  | inl here ↦
      let same : o.page ≡ above page = page_is o.page (above page) here in
      let row : mappings_of tree (above page) ≡ o.mappings = subst (λ (p : PageId). mappings_of tree p ≡ o.mappings) same (taken o (0, omega arith, refl) same) in
      rw here (ap (λ (r : List Mapping). block_in (slice_index_or r (slot_of page) Unmapped)) row)
  | inr apart ↦
      let next = leads_as tree page others (λ p there. taken p (suc there.0, (let below = there.1 in omega arith), there.2))
      (λ never. none (λ listed. never_here apart listed.0 listed.1 listed.2 never)) in
      rw apart next
]
  where
    never_here : is_page o.page (above page) ≡ false → (p : OpenedPage) → Contains (o ∷ others) p → p.page ≡ above page → (IsListed others (above page) → ⊥) → ⊥
    never_here apart p (zero, below, is) named never =
        let same : o.page ≡ above page = ap (λ (q : OpenedPage). q.page) is ∙ named in
        let other : is_page o.page o.page ≡ false = subst (λ (q : PageId). is_page o.page q ≡ false) (sym same) apart in
        let itself = page_itself o.page in
        absurd (let both = sym itself ∙ other in cc)
    never_here apart p (suc k, below, is) named never = never (p, (k, (let b = below in omega arith), is), named)

-- So of the trees that a zone has of all that were opened.
pub opened_map_tree : (g : Geometry) (zone zones : ℕ) (pages : List OpenedPage) (tree : Tree) → IsOpening (record { geometry = g; zone = zone; zones = zones }) pages tree
    → IsMapTree g zone zones (opened_page pages) [] tree
opened_map_tree g zone zones pages tree opening = record {
  forest_is = opening.forest;
  form = opening.form;
  linked = λ page linkable.
      let f : Forest = record { geometry = g; zone = zone; zones = zones } in
      let lower : IsLower f page = subst (λ (h : Forest). IsLower h page) opening.forest (lower_of tree page opening.form linkable) in
      let inner : IsInner f (above page) = above_inner f page (subst IsForest opening.forest opening.form.forest) lower in
      let inside : nat_lt page.tree TREES ≡ true = lt-ltb page.tree TREES lower.tree.inside in
      rw inside (leads_as tree page pages (λ o there named.
      let own : IsTreeOf f (above page).tree = lower.tree in
      All-contains (λ (q : OpenedPage). IsTreeOf f q.page.tree → mappings_of tree q.page ≡ q.mappings) pages o opening.taken there (subst (λ (q : PageId). IsTreeOf f q.tree) (sym named) own)) (λ never. opening.empty (above page) (slot_of page) inner never));
}

-- by other names of the zone and of how many there are
pub opened_here : (g : Geometry) (zone zones zone_too zones_too : ℕ) (pages : List OpenedPage) (tree : Tree) → zone_too ≡ zone → zones_too ≡ zones
    → IsOpening (record { geometry = g; zone = zone_too; zones = zones_too }) pages tree → IsMapTree g zone zones (opened_page pages) [] tree
opened_here g zone zones zone_too zones_too pages tree zone_is zones_is opening = opened_map_tree g zone zones pages tree (rw (zone_is, zones_is) at opening)
