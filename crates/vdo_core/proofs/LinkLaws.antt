-- What the pages that were opened of an image lead to: data blocks, for pages below those that are there.
use Rattle.std.proofs.Common.{ℕ, zero, suc, ◌≡◌, ◌+◌, ◌<◌, nat_lt, true, None, Some, IsSome, List, [], ◌∷◌, length, slice_index_or, Contains, refl, ap, sym, ◌∙◌, subst, inl, inr, arith}
use Rattle.std.proofs.lemmas.Bool.{cases_Bool, lt-ltb, ltb-true}
use Rattle.std.proofs.lemmas.List.Elements.{All-contains}
use Rattle.blk_base.specs.Pages.{above, slot_of}
use Rattle.blk_base.specs.Regions.{IsDataBlock}
use Rattle.blk_base.specs.declared.geometry.Geometry.{Geometry}
use Rattle.blk_base.specs.declared.opened.OpenedPage.{OpenedPage}
use Rattle.blk_base.specs.declared.place.Mapping.TheVariants.{Unmapped, At}
use Rattle.blk_base.specs.declared.place.PageId.{PageId}
use Rattle.blk_base.specs.declared.place.Pbn.{Pbn}
use Rattle.blk_base.specs.declared.sizes.TheConstants.{TREES}
use Rattle.block_map_tree.specs.OpenedTree.{IsLed, IsOpened, IsPlaced, all_trees}
use Rattle.block_map_tree.specs.Pages.{IsTreeOf}
use Rattle.page_codec.specs.Grammar.{AreHeld, HoldsMapping}
use Rattle.image_model.specs.Pages.{is_page}
use Rattle.plain_laws.proofs.OptionLaws.{some_of}
use Rattle.core_model.proofs.TreeLinks.{page_is, page_itself, at_block}
use Rattle.core_model.specs.PageLinks.{IsThere, block_in, led_by, opened_page}

-- the page above, which leads there
record LedBy (pages : List OpenedPage) (page : PageId) (x : Pbn) : Type 0 where
  parent : OpenedPage
  listed : Contains pages parent
  named : parent.page ≡ above page
  leads : slice_index_or parent.mappings (slot_of page) Unmapped ≡ At x

behind : (o p : OpenedPage) (others : List OpenedPage) → Contains others p → Contains (o ∷ others) p
behind o p others (k, below, is) = (suc k, (let b = below in omega arith), is)

led_from : (pages : List OpenedPage) (page : PageId) (x : Pbn) → led_by pages page ≡ Some x → LedBy pages page x
led_from [] page x is = absurd cc
led_from (o ∷ others) page x is = elim (cases_Bool (is_page o.page (above page))) [
  | inl here ↦ record { parent = o; listed = (0, omega arith, refl); named = page_is o.page (above page) here; leads = at_block _ x (rw here at is) }
  | inr apart ↦
      let next = led_from others page x (rw apart at is) in
      record { parent = next.parent; listed = behind o next.parent others next.listed; named = next.named; leads = next.leads }
]

-- each page is there once, so the first one leads there
abbrev AreOnce : List OpenedPage → Type 0
AreOnce pages = (i j : ℕ) (d : OpenedPage) → i < j → j < length pages → (slice_index_or pages i d).page ≡ (slice_index_or pages j d).page → ⊥

led_some : (pages : List OpenedPage) (page : PageId) (x : Pbn) (parent : OpenedPage) → AreOnce pages → Contains pages parent → parent.page ≡ above page
    → slice_index_or parent.mappings (slot_of page) Unmapped ≡ At x → led_by pages page ≡ Some x
led_some [] page x parent once listed named leads = let none = listed.1 in absurd (omega (arith, none))
led_some (o ∷ others) page x parent once (zero, below, is) named leads =
    let same : o.page ≡ above page = ap (λ (p : OpenedPage). p.page) is ∙ named in
    let here : is_page o.page (above page) ≡ true = subst (λ (q : PageId). is_page o.page q ≡ true) same (page_itself o.page) in
    rw here (ap (λ (p : OpenedPage). block_in (slice_index_or p.mappings (slot_of page) Unmapped)) is ∙ ap block_in leads)
led_some (o ∷ others) page x parent once (suc k, below, is) named leads = elim (cases_Bool (is_page o.page (above page))) [
  | inl here ↦
      let first : o.page ≡ above page = page_is o.page (above page) here in
      absurd (once 0 (suc k) parent (omega arith) below (first ∙ sym named ∙ ap (λ (p : OpenedPage). p.page) (sym is)))
  | inr apart ↦
      rw apart (led_some others page x parent (λ i j d less inside same. once (suc i) (suc j) d (omega (arith, less)) (let n = inside in omega arith) same) (k, (let b = below in omega arith), is) named leads)
]

-- a page that is linked is of a tree
linked_by : (pages : List OpenedPage) (page : PageId) (x : Pbn) → opened_page pages page ≡ Some x → (page.tree < TREES) × (led_by pages page ≡ Some x)
linked_by pages page x is = elim (cases_Bool (nat_lt page.tree TREES)) [
  | inl inside ↦ (ltb-true page.tree TREES inside, rw inside at is)
  | inr outside ↦ (let none : None ≡ Some x = rw outside at is in absurd cc)
]

module _ (g : Geometry) (pages : List OpenedPage) (opened : IsOpened (all_trees g) pages) where
  own : (parent : OpenedPage) (page : PageId) → parent.page ≡ above page → page.tree < TREES → IsTreeOf (all_trees g) parent.page.tree
  own parent page named inside = subst (λ (q : PageId). IsTreeOf (all_trees g) q.tree) (sym named) (record { inside = inside; own = omega arith })

  -- it stands at a data block
  pub linked_data : (page : PageId) (x : Pbn) → opened_page pages page ≡ Some x → IsDataBlock g x.0
  linked_data page x is =
      let by = linked_by pages page x is in
      let led = led_from pages page x by.1 in
      let held : AreHeld g led.parent.page.level led.parent.mappings =
      All-contains (λ (o : OpenedPage). IsTreeOf (all_trees g) o.page.tree → AreHeld g o.page.level o.mappings) pages led.parent opened.held led.listed (own led.parent page led.named by.0) in
      let few : slot_of page < length led.parent.mappings = let count = held.count in omega arith in
      (subst (HoldsMapping g led.parent.page.level) led.leads (held.each (slot_of page) Unmapped few)).0

  -- and the page above is a root, or linked
  pub linked_up : (page : PageId) → IsSome (opened_page pages page) → IsThere g.height (opened_page pages) [] (above page)
  linked_up page some =
      let is = some_of (opened_page pages page) some in
      let by = linked_by pages page is.0 is.1 in
      let led = led_from pages page is.0 by.1 in
      let placed : IsPlaced (all_trees g) pages led.parent =
      All-contains (λ (o : OpenedPage). IsTreeOf (all_trees g) o.page.tree → IsPlaced (all_trees g) pages o) pages led.parent opened.placed led.listed (own led.parent page led.named by.0) in
      elim placed [
        | inl root ↦ inl (subst (λ (q : PageId). q.level + 1 ≡ g.height) led.named root.0.level)
        | inr lower ↦ inr (linked_there page led.parent led.named by.0 lower.1)
      ]
    where
      linked_there : (page : PageId) (parent : OpenedPage) → parent.page ≡ above page → page.tree < TREES → IsLed pages parent.page parent.at → IsSome (opened_page pages (above page))
      linked_there page parent named inside led =
          let there : led_by pages parent.page ≡ Some parent.at = led_some pages parent.page parent.at led.parent opened.once led.listed led.named led.leads in
          let linked : led_by pages (above page) ≡ Some parent.at = subst (λ (q : PageId). led_by pages q ≡ Some parent.at) named there in
          let tree : nat_lt (above page).tree TREES ≡ true = lt-ltb page.tree TREES inside in
          rw (tree, linked) refl
