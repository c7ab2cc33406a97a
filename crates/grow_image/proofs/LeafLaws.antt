-- The leaves with some addresses to which pages lead, slot by slot and page by page.
use Rattle.std.proofs.Common.{ℕ, ◌≡◌, ◌+◌, ◌/◌, ◌%◌, ◌<◌, List, [], ◌∷◌, ◌++◌, length, take, get_or, Contains, slice_index_or, refl, sym, ◌∙◌, ap, ap₂, subst, inl, inr, arith}
use Rattle.std.proofs.lemmas.List.Elements.{Contains-append_left, Contains-append_right, Contains-append_cases}
use Rattle.std.proofs.lemmas.Bool.{cases_lt}
use Rattle.blk_base.specs.declared.opened.OpenedPage.{OpenedPage}
use Rattle.blk_base.specs.declared.place.Mapping.TheVariants.{Unmapped, At}
use Rattle.blk_base.specs.declared.place.PageId.{PageId}
use Rattle.blk_base.specs.declared.place.Pbn.{Pbn}
use Rattle.blk_base.specs.declared.sizes.TheConstants.{PAGE_SLOTS, TREES}
use Rattle.blk_base.specs.Pages.{above, page_below, slot_of, leaf_of}
use Rattle.image_model.proofs.CountLaws.{none_in_nothing}
use Rattle.replay_map.proofs.ShareLaws.{grown}
use Rattle.replay_map.proofs.TakenLaws.{only_one}
use Rattle.replay_map.proofs.UnderLaws.{page_is}
use Rattle.replay_map.specs.declared.links.Link.{Link}
use Rattle.grow_image.specs.NewAddresses.{AddsSlot, AreAdded, AreNewLeaves, IsBelowSlot, IsLeafBelow, IsWithin}
use Rattle.grow_image.specs.declared.address_range.AddressRange.{AddressRange}

-- the leaf to which a slot leads is the page below it
pub below_slot : (page : OpenedPage) (slot : ℕ) (leaf : Link) → IsBelowSlot page slot leaf → leaf.page ≡ page_below page.page slot
below_slot page slot leaf is =
    let tree : page.page.tree ≡ leaf.page.tree = ap (λ (p : PageId). p.tree) is.named in
    let level : page.page.level ≡ leaf.page.level + 1 = ap (λ (p : PageId). p.level) is.named in
    let index : page.page.index ≡ leaf.page.index / PAGE_SLOTS = ap (λ (p : PageId). p.index) is.named in
    let number : leaf.page.index % PAGE_SLOTS ≡ slot = is.slot_is in
    page_is leaf.page (page_below page.page slot) (sym tree) (omega (arith, level)) (omega (arith, index, number))

-- and back
pub slot_leads : (page : OpenedPage) (slot : ℕ) (at : Pbn) → page.page.level ≡ 1 → page.page.tree < TREES → slot < PAGE_SLOTS → slice_index_or page.mappings slot Unmapped ≡ At at
    → IsBelowSlot page slot (record { page = page_below page.page slot; at = at })
slot_leads page slot at level tree inside leads = record {
  level = omega (arith, level);
  tree = tree;
  named = page_is page.page (above (page_below page.page slot)) refl (omega (arith, level)) (omega (arith, inside));
  slot_is = omega (arith, inside);
  leads = leads;
}

-- One slot.

pub none_added : (range : AddressRange) (page : OpenedPage) (slot : ℕ) (leaves : List Link)
    → ((address : ℕ) (at : Pbn) → IsWithin range address → IsBelowSlot page slot (record { page = leaf_of address; at = at }) → ⊥) → AddsSlot range page slot leaves leaves
none_added range page slot leaves none = record {
  kept = λ leaf has. has;
  each = λ leaf has. inl has;
  every = λ address at within is. absurd (none address at within is);
}

pub one_added : (range : AddressRange) (page : OpenedPage) (slot : ℕ) (at : Pbn) (old new : List Link) → page.page.level ≡ 1 → page.page.tree < TREES → slot < PAGE_SLOTS
    → slice_index_or page.mappings slot Unmapped ≡ At at → new ≡ old ++ record { page = page_below page.page slot; at = at } ∷ [] → AddsSlot range page slot old new
one_added range page slot at old new level tree inside leads is =
    let own : Link = record { page = page_below page.page slot; at = at } in
    record {
      kept = λ leaf has. subst (λ (xs : List Link). Contains xs leaf) (sym is) (Contains-append_left old (own ∷ []) leaf has);
      each = λ leaf has. elim (Contains-append_cases old (own ∷ []) leaf (subst (λ (xs : List Link). Contains xs leaf) is has)) [
        | inl before ↦ inl before
        | inr last ↦ inr (subst (IsBelowSlot page slot) (only_one own leaf last) (slot_leads page slot at level tree inside leads))
      ];
      every = λ address other within below.
          let same_at : At at ≡ At other = sym leads ∙ below.leads in
          let block : at ≡ other = cc same_at in
          let page_same : page_below page.page slot ≡ leaf_of address = sym (below_slot page slot (record { page = leaf_of address; at = other }) below) in
          let same : own ≡ record { page = leaf_of address; at = other } = ap₂ (λ (p : PageId) (b : Pbn). record { page = p; at = b }) page_same block in
          subst (λ (xs : List Link). Contains xs (record { page = leaf_of address; at = other })) (sym is)
          (Contains-append_right old (own ∷ []) (record { page = leaf_of address; at = other }) (0, omega arith, same));
    }

-- The slots of a page.

pub no_slots : (range : AddressRange) (page : OpenedPage) (leaves : List Link) → AreAdded range page 0 leaves leaves
no_slots range page leaves = record {
  kept = λ leaf has. has;
  each = λ leaf has. inl has;
  every = λ address at slot below within is. absurd (omega (arith, below));
}

pub slot_more : (range : AddressRange) (page : OpenedPage) (slot : ℕ) (first old new : List Link) → AreAdded range page slot first old → AddsSlot range page slot old new
    → AreAdded range page (slot + 1) first new
slot_more range page slot first old new before adds = record {
  kept = λ leaf has. adds.kept leaf (before.kept leaf has);
  each = λ leaf has. elim (adds.each leaf has) [
    | inl older ↦ elim (before.each leaf older) [
      | inl oldest ↦ inl oldest
      | inr (number, below, is) ↦ inr (number, omega (arith, below), is)
    ]
    | inr is ↦ inr (slot, omega arith, is)
  ];
  every = λ address at number below within is. elim (cases_lt number slot) [
    | inl less ↦ adds.kept (record { page = leaf_of address; at = at }) (before.every address at number less within is)
    | inr not_less ↦
        let same : number ≡ slot = omega (arith, below, not_less) in
        adds.every address at within (subst (λ (n : ℕ). IsBelowSlot page n (record { page = leaf_of address; at = at })) same is)
  ];
}

-- a page that isn't above leaves of a tree leads to none
pub none_below : (range : AddressRange) (page : OpenedPage) (leaves : List Link) → (page.page.level ≡ 1 → page.page.tree < TREES → ⊥) → AreAdded range page PAGE_SLOTS leaves leaves
none_below range page leaves other = record {
  kept = λ leaf has. has;
  each = λ leaf has. inl has;
  every = λ address at slot below within is.
      let tree : page.page.tree ≡ (leaf_of address).tree = ap (λ (p : PageId). p.tree) is.named in
      let level : page.page.level ≡ 1 = ap (λ (p : PageId). p.level) is.named in
      let few = is.tree in
      absurd (other level (omega (arith, tree, few)));
}

-- Page by page.

pub no_pages : (range : AddressRange) → AreNewLeaves range [] []
no_pages range = record {
  each = λ leaf has. absurd (none_in_nothing leaf has);
  every = λ address at within led. absurd (none_in_nothing led.parent led.listed);
}

led_on : (pages more : List OpenedPage) (leaf : Link) → IsLeafBelow pages leaf → IsLeafBelow (pages ++ more) leaf
led_on pages more leaf is = record {
  level = is.level;
  tree = is.tree;
  led = record { parent = is.led.parent; listed = Contains-append_left pages more is.led.parent is.led.listed; named = is.led.named; leads = is.led.leads };
}

pub page_more : (range : AddressRange) (pages : List OpenedPage) (page : OpenedPage) (old new : List Link) → AreNewLeaves range pages old → AreAdded range page PAGE_SLOTS old new
    → AreNewLeaves range (pages ++ page ∷ []) new
page_more range pages page old new before adds = record {
  each = λ leaf has. elim (adds.each leaf has) [
    | inl older ↦ led_on pages (page ∷ []) leaf (before.each leaf older)
    | inr (slot, below, is) ↦ record {
      level = is.level;
      tree = is.tree;
      led = record {
        parent = page;
        listed = Contains-append_right pages (page ∷ []) page (0, omega arith, refl);
        named = is.named;
        leads = ap (λ (n : ℕ). slice_index_or page.mappings n Unmapped) is.slot_is ∙ is.leads;
      };
    }
  ];
  every = λ address at within led. elim (Contains-append_cases pages (page ∷ []) led.parent led.listed) [
    | inl listed ↦
        adds.kept (record { page = leaf_of address; at = at }) (before.every address at within (record { parent = led.parent; listed = listed; named = led.named; leads = led.leads }))
    | inr last ↦
        let same : page ≡ led.parent = only_one page led.parent last in
        adds.every address at (slot_of (leaf_of address)) (omega arith) within (record {
          level = refl;
          tree = omega arith;
          named = ap (λ (o : OpenedPage). o.page) same ∙ led.named;
          slot_is = refl;
          leads = ap (λ (o : OpenedPage). slice_index_or o.mappings (slot_of (leaf_of address)) Unmapped) same ∙ led.leads;
        })
  ];
}

pub pages_more : (range : AddressRange) (pages : List OpenedPage) (i : ℕ) (page : OpenedPage) (old new : List Link) → i < length pages → page ≡ get_or pages i page
    → AreNewLeaves range (take i pages) old → AreAdded range page PAGE_SLOTS old new → AreNewLeaves range (take (i + 1) pages) new
pages_more range pages i page old new inside is before adds =
    subst (λ (list : List OpenedPage). AreNewLeaves range list new)
    (ap (λ (o : OpenedPage). take i pages ++ o ∷ []) is ∙ sym (grown pages i page inside)) (page_more range (take i pages) page old new before adds)
