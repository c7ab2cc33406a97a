-- What a walk adds has the form of a block map, on any device.
use Rattle.std.proofs.Common.{ℕ, zero, suc, ◌≡◌, ◌⊎◌, ◌+◌, ◌-◌, ◌*◌, ◌/◌, ◌^◌, ◌<◌, ◌≤◌, ◌++◌, List, [], ◌∷◌, Option, Some, None, length, Contains, slice_index_or, refl, sym, ◌∙◌, ap, subst, inl, inr, arith, append_assoc}
use Rattle.std.proofs.Math.Nat.{pow-succ'}
use Rattle.std.specs.List.{AllPairs}
use Rattle.std.proofs.lemmas.Bool.{cases_lt}
use Rattle.std.proofs.lemmas.List.{get_or_append_left, get_or-append_right, get_or_default, length-append, append-nil}
use Rattle.std.proofs.lemmas.List.Elements.{Contains-append_left, Contains-append_right, Contains-append_cases}
use Rattle.blk_base.specs.Regions.{IsDataBlock}
use Rattle.blk_base.specs.declared.geometry.Geometry.{Geometry}
use Rattle.blk_base.specs.declared.place.Mapping.{Mapping}
use Rattle.blk_base.specs.declared.place.Mapping.TheVariants.{Unmapped, Zero, At}
use Rattle.blk_base.specs.declared.place.PageId.{PageId}
use Rattle.blk_base.specs.declared.place.Pbn.{Pbn}
use Rattle.blk_base.specs.declared.sizes.TheConstants.{PAGE_SLOTS, TREES}
use Rattle.blk_base.specs.Pages.{above, page_below, root_page}
use Rattle.image_model.specs.Windows.{LeadsToData}
use Rattle.replay_map.proofs.LinkLaws.{more_of_slots}
use Rattle.replay_map.proofs.TakenLaws.{only_one}
use Rattle.replay_map.proofs.UnderLaws.{no_slots_yet, under_itself, under_slots, up_to_more}
use Rattle.replay_map.specs.Changes.{changed}
use Rattle.replay_map.specs.Forms.{Adds, AddsForm, HasForm, HasVisited, IsInTree, IsListed, IsRootPage, SamePage, SameSlot, Takes, above_of, changes_in, is_page_of, links_in}
use Rattle.replay_map.specs.Links.{AreOfSlots, link_of}
use Rattle.replay_map.specs.Reads.{AreLeading}
use Rattle.replay_map.specs.Taken.{change_in}
use Rattle.replay_map.specs.Walks.{IsInTrees, IsRoot, IsUnder, IsUpTo}
use Rattle.replay_map.specs.declared.changes.SlotId.{SlotId}
use Rattle.replay_map.specs.declared.found.Found.{Found}
use Rattle.replay_map.specs.declared.found.SlotChange.{SlotChange}
use Rattle.replay_map.specs.declared.links.Link.{Link}

-- Lists.

none_in : {X : Type 0} (x : X) → Contains [] x → ⊥
none_in x there = omega (arith, there.1)

there_at : {X : Type 0} (xs : List X) (k : ℕ) (d : X) → k < length xs → Contains xs (slice_index_or xs k d)
there_at xs k d below = (k, below, sym (get_or_default xs k d (slice_index_or xs k d) below))

pairs_append : {X : Type 0} (R : X → X → Type 0) (xs ys : List X) → AllPairs R xs → AllPairs R ys → ((x y : X) → Contains xs x → Contains ys y → R x y) → AllPairs R (xs ++ ys)
pairs_append {X} R xs ys first next cross i j d less below =
    let whole = length-append xs ys in
    elim (cases_lt j (length xs)) [
      | inl inside ↦
          let one = get_or_append_left xs ys d i (omega (arith, less, inside)) in
          let other = get_or_append_left xs ys d j inside in
          subst (λ (x : X). R x (slice_index_or (xs ++ ys) j d)) (sym one) (subst (λ (y : X). R (slice_index_or xs i d) y) (sym other) (first i j d less inside))
      | inr past ↦
          let other = get_or-append_right xs ys (length xs) j d refl past in
          let there : j - length xs < length ys = omega (arith, below, whole, past) in
          elim (cases_lt i (length xs)) [
            | inl inside ↦
                let one = get_or_append_left xs ys d i inside in
                subst (λ (x : X). R x (slice_index_or (xs ++ ys) j d)) (sym one)
                (subst (λ (y : X). R (slice_index_or xs i d) y) (sym other)
                (cross (slice_index_or xs i d) (slice_index_or ys (j - length xs) d) (there_at xs i d inside) (there_at ys (j - length xs) d there)))
            | inr behind ↦
                let one = get_or-append_right xs ys (length xs) i d refl behind in
                subst (λ (x : X). R x (slice_index_or (xs ++ ys) j d)) (sym one)
                (subst (λ (y : X). R (slice_index_or ys (i - length xs) d) y) (sym other) (next (i - length xs) (j - length xs) d (omega (arith, less, behind)) there))
          ]
    ]

pairs_none : {X : Type 0} (R : X → X → Type 0) → AllPairs R []
pairs_none R i j d less below = absurd (omega (arith, below))

pairs_one : {X : Type 0} (R : X → X → Type 0) (x : X) → AllPairs R (x ∷ [])
pairs_one R x i j d less below = absurd (omega (arith, less, below))

-- Adding.

module _ {X : Type 0} (page_of : X → PageId) (Alike : X → X → Type 0) where
  adds_none : (Over : PageId → Type 0) (xs : List X) → Adds page_of Alike Over xs xs
  adds_none Over xs = record { added = []; after = sym (append-nil xs); over = λ x there. absurd (none_in x there); once = pairs_none (λ (x y : X). Alike x y → ⊥) }

-- two walks one after the other, over other pages
module _ (g : Geometry) (IsTop IsNextTop First Next Over : PageId → Type 0) (old middle new : Found)
    (apart : (page : PageId) → First page → Next page → ⊥) (into : (page : PageId) → First page ⊎ Next page → Over page)
    (one : AddsForm g IsTop First old middle) (other : AddsForm g IsNextTop Next middle new)
    (known : (page : PageId) → IsNextTop page → IsTop page ⊎ IsListed one.links.added page) where
  both : {X : Type 0} (page_of : X → PageId) (Alike : X → X → Type 0) (alike : (x y : X) → Alike x y → page_of x ≡ page_of y) (xs ys : List X)
      → ((x : X) → Contains xs x → First (page_of x)) → ((y : X) → Contains ys y → Next (page_of y)) → (x y : X) → Contains xs x → Contains ys y → Alike x y → ⊥
  both page_of Alike alike xs ys first next x y there there' same = apart (page_of y) (subst (λ (p : PageId). First p) (alike x y same) (first x there)) (next y there')

  over_both : {X : Type 0} (page_of : X → PageId) (xs ys : List X) → ((x : X) → Contains xs x → First (page_of x)) → ((y : X) → Contains ys y → Next (page_of y)) → (x : X) → Contains (xs ++ ys) x → Over (page_of x)
  over_both page_of xs ys first next x there =
      elim (Contains-append_cases xs ys x there) [ inl before ↦ into (page_of x) (inl (first x before)) | inr behind ↦ into (page_of x) (inr (next x behind)) ]

  abbrev links' : List Link
  links' = one.links.added ++ other.links.added

  abbrev slots' : List SlotChange
  slots' = one.slots.added ++ other.slots.added

  listed_left : (page : PageId) → IsListed one.links.added page → IsListed links' page
  listed_left page is = (is.0, Contains-append_left one.links.added other.links.added is.0 is.1, is.2)

  listed_right : (page : PageId) → IsListed other.links.added page → IsListed links' page
  listed_right page is = (is.0, Contains-append_right one.links.added other.links.added is.0 is.1, is.2)

  same_above : (x y : Link) → SamePage x y → above_of x ≡ above_of y
  same_above x y same = ap (λ (p : PageId). above p) same

  same_page : (x y : SlotChange) → SameSlot x y → is_page_of x ≡ is_page_of y
  same_page x y same = same.0

  pub form_on : (together : AddsForm g IsTop Over old new) × ((link : Link) → Contains one.links.added link → Contains together.links.added link)
  form_on = (
    record {
      links = record {
        added = links';
        after = other.links.after ∙ ap (λ (xs : List Link). xs ++ other.links.added) one.links.after ∙ append_assoc old.links.items one.links.added other.links.added;
        over = over_both above_of one.links.added other.links.added one.links.over other.links.over;
        once = pairs_append (λ (x y : Link). SamePage x y → ⊥) one.links.added other.links.added one.links.once other.links.once
            (both above_of SamePage same_above one.links.added other.links.added one.links.over other.links.over);
      };
      slots = record {
        added = slots';
        after = other.slots.after ∙ ap (λ (xs : List SlotChange). xs ++ other.slots.added) one.slots.after ∙ append_assoc old.slots.items one.slots.added other.slots.added;
        over = over_both is_page_of one.slots.added other.slots.added one.slots.over other.slots.over;
        once = pairs_append (λ (x y : SlotChange). SameSlot x y → ⊥) one.slots.added other.slots.added one.slots.once other.slots.once
            (both is_page_of SameSlot same_page one.slots.added other.slots.added one.slots.over other.slots.over);
      };
      each = λ link there. elim (Contains-append_cases one.links.added other.links.added link there) [ inl before ↦ one.each link before | inr behind ↦ other.each link behind ];
      parents = λ link there. elim (Contains-append_cases one.links.added other.links.added link there) [
        | inl before ↦ elim (one.parents link before) [ inl top ↦ inl top | inr listed ↦ inr (listed_left (above link.page) listed) ]
        | inr behind ↦ elim (other.parents link behind) [
          | inl top ↦ elim (known (above link.page) top) [ inl own ↦ inl own | inr listed ↦ inr (listed_left (above link.page) listed) ]
          | inr listed ↦ inr (listed_right (above link.page) listed)
        ]
      ];
    },
    λ link there. Contains-append_left one.links.added other.links.added link there,
  )

-- the same links and slots, as those of other pages
form_as : (g : Geometry) (IsTop First Over : PageId → Type 0) (old new : Found) → ((page : PageId) → First page → Over page) → (one : AddsForm g IsTop First old new)
    → (wider : AddsForm g IsTop Over old new) × ((link : Link) → Contains one.links.added link → Contains wider.links.added link)
form_as g IsTop First Over old new into one = (
  record {
    links = record { added = one.links.added; after = one.links.after; over = λ x there. into (above_of x) (one.links.over x there); once = one.links.once };
    slots = record { added = one.slots.added; after = one.slots.after; over = λ x there. into (is_page_of x) (one.slots.over x there); once = one.slots.once };
    each = one.each;
    parents = one.parents;
  },
  λ link there. there,
)

-- One page.

pub links_are : (page : PageId) (mappings : List Mapping) (n : ℕ) → AreOfSlots page mappings n (links_in page mappings n)
links_are page mappings zero = λ below at. (λ there. absurd (none_in _ there), λ is. absurd (omega (arith, is.1)))
links_are page mappings (suc n) =
    let more = more_of_slots page mappings n (links_in page mappings n) (links_in page mappings n ++ link_of page n (slice_index_or mappings n Unmapped)) (links_are page mappings n) refl in
    subst (λ (k : ℕ). AreOfSlots page mappings k (links_in page mappings n ++ link_of page n (slice_index_or mappings n Unmapped))) (let next : n + 1 ≡ suc n = omega arith in next) more

pub links_more : (page : PageId) (mappings : List Mapping) (slot : ℕ) (old new : List Link) → old ≡ links_in page mappings slot → new ≡ old ++ link_of page slot (slice_index_or mappings slot Unmapped)
    → new ≡ links_in page mappings (slot + 1)
links_more page mappings slot old new before now =
    now ∙ ap (λ (xs : List Link). xs ++ link_of page slot (slice_index_or mappings slot Unmapped)) before
    ∙ ap (λ (n : ℕ). links_in page mappings n) (let next : suc slot ≡ slot + 1 = omega arith in next)

link_slot : (page : PageId) (mappings : List Mapping) (n : ℕ) (link : Link) → Contains (links_in page mappings n) link
    → (slot : ℕ) × (slot < n) × (link.page ≡ page_below page slot) × (slice_index_or mappings slot Unmapped ≡ At link.at)
link_slot page mappings n link there = (links_are page mappings n link.page link.at).0 there

one_link : (page : PageId) (n : ℕ) (mapping : Mapping) (link : Link) → Contains (link_of page n mapping) link → link.page ≡ page_below page n
one_link page n Unmapped link there = absurd (none_in link there)
one_link page n Zero link there = absurd (none_in link there)
one_link page n (At at) link there = sym (ap (λ (l : Link). l.page) (only_one (record { page = page_below page n; at = at }) link there))

one_pair : (page : PageId) (n : ℕ) (mapping : Mapping) → AllPairs (λ (x y : Link). SamePage x y → ⊥) (link_of page n mapping)
one_pair page n Unmapped = pairs_none (λ (x y : Link). SamePage x y → ⊥)
one_pair page n Zero = pairs_none (λ (x y : Link). SamePage x y → ⊥)
one_pair page n (At at) = pairs_one (λ (x y : Link). SamePage x y → ⊥) (record { page = page_below page n; at = at })

links_once : (page : PageId) (mappings : List Mapping) (n : ℕ) → AllPairs (λ (x y : Link). SamePage x y → ⊥) (links_in page mappings n)
links_once page mappings zero = pairs_none (λ (x y : Link). SamePage x y → ⊥)
links_once page mappings (suc n) =
    let last = slice_index_or mappings n Unmapped in
    pairs_append (λ (x y : Link). SamePage x y → ⊥) (links_in page mappings n) (link_of page n last) (links_once page mappings n) (one_pair page n last)
    (λ x y there there' same.
    let before = link_slot page mappings n x there in
    let behind = one_link page n last y there' in
    let index : page.index * PAGE_SLOTS + before.0 ≡ page.index * PAGE_SLOTS + n = ap (λ (p : PageId). p.index) (sym before.2 ∙ same ∙ behind) in
    omega (arith, index, before.1))

one_change : (page : PageId) (n : ℕ) (o : Option Mapping) (change : SlotChange) → Contains (change_in page n o) change → (change.page ≡ page) × (change.slot ≡ n)
one_change page n None change there = absurd (none_in change there)
one_change page n (Some mapping) change there =
    let is = only_one (record { page = page; slot = n; mapping = mapping }) change there in
    (sym (ap (λ (c : SlotChange). c.page) is), sym (ap (λ (c : SlotChange). c.slot) is))

change_pair : (page : PageId) (n : ℕ) (o : Option Mapping) → AllPairs (λ (x y : SlotChange). SameSlot x y → ⊥) (change_in page n o)
change_pair page n None = pairs_none (λ (x y : SlotChange). SameSlot x y → ⊥)
change_pair page n (Some mapping) = pairs_one (λ (x y : SlotChange). SameSlot x y → ⊥) (record { page = page; slot = n; mapping = mapping })

changes_are : (changes : List (SlotId × Mapping)) (page : PageId) (n : ℕ) (change : SlotChange) → Contains (changes_in changes page n) change → (change.page ≡ page) × (change.slot < n)
changes_are changes page zero change there = absurd (none_in change there)
changes_are changes page (suc n) change there = elim (Contains-append_cases (changes_in changes page n) (change_in page n (changed changes page n)) change there) [
  | inl before ↦ let is = changes_are changes page n change before in (is.0, omega (arith, is.1))
  | inr last ↦ let is = one_change page n (changed changes page n) change last in (is.0, omega (arith, is.1))
]

changes_once : (changes : List (SlotId × Mapping)) (page : PageId) (n : ℕ) → AllPairs (λ (x y : SlotChange). SameSlot x y → ⊥) (changes_in changes page n)
changes_once changes page zero = pairs_none (λ (x y : SlotChange). SameSlot x y → ⊥)
changes_once changes page (suc n) =
    let last = changed changes page n in
    pairs_append (λ (x y : SlotChange). SameSlot x y → ⊥) (changes_in changes page n) (change_in page n last) (changes_once changes page n) (change_pair page n last)
    (λ x y there there' same. omega (arith, (changes_are changes page n x there).1, (one_change page n last y there').1, same.1))

-- the page below a page of a tree
pub below_in_tree : (g : Geometry) (page : PageId) (slot : ℕ) → IsInTree g page → 0 < page.level → slot < PAGE_SLOTS → IsInTree g (page_below page slot)
below_in_tree g page slot is some inside =
    let levels : g.height - 1 - (page.level - 1) ≡ suc (g.height - 1 - page.level) = omega (arith, is.level, some) in
    let power : PAGE_SLOTS ^ (g.height - 1 - (page.level - 1)) ≡ PAGE_SLOTS * PAGE_SLOTS ^ (g.height - 1 - page.level)
    = ap (λ (n : ℕ). PAGE_SLOTS ^ n) levels ∙ pow-succ' PAGE_SLOTS (g.height - 1 - page.level) in
    record { tree = is.tree; level = omega (arith, is.level); index = omega (arith, is.index, power, inside) }

leads_to : (g : Geometry) (mapping : Mapping) (at : Pbn) → LeadsToData g mapping → mapping ≡ At at → IsDataBlock g at.0
leads_to g mapping at leads is = subst (λ (m : Mapping). LeadsToData g m) is leads

above_below : (page : PageId) (slot : ℕ) → 0 < page.level → slot < PAGE_SLOTS → above (page_below page slot) ≡ page
above_below page slot some inside =
    let level : page.level - 1 + 1 ≡ page.level = omega (arith, some) in
    let index : (page.index * PAGE_SLOTS + slot) / PAGE_SLOTS ≡ page.index = omega (arith, inside) in
    ap (λ (l : ℕ). record { tree = page.tree; level = l; index = (page.index * PAGE_SLOTS + slot) / PAGE_SLOTS }) level
    ∙ ap (λ (i : ℕ). record { tree = page.tree; level = page.level; index = i }) index

module _ (g : Geometry) (top : PageId) (mappings : List Mapping) (changes : List (SlotId × Mapping)) (old new : Found)
    (is : IsInTree g top) (leads : AreLeading g mappings) (takes : Takes top mappings changes old new) where
  slots_taken : Adds is_page_of SameSlot (IsUpTo top 0) old.slots.items new.slots.items
  slots_taken = record {
    added = changes_in changes top PAGE_SLOTS;
    after = takes.slots;
    over = λ change there. inl (changes_are changes top PAGE_SLOTS change there).0;
    once = changes_once changes top PAGE_SLOTS;
  }

  visited_leaf : top.level ≡ 0 → HasVisited g top mappings 0 old new
  visited_leaf leaf = record {
    form = record {
      links = record { added = []; after = takes.leaf leaf ∙ sym (append-nil old.links.items); over = λ x there. absurd (none_in x there); once = pairs_none (λ (x y : Link). SamePage x y → ⊥) };
      slots = slots_taken;
      each = λ link there. absurd (none_in link there);
      parents = λ link there. absurd (none_in link there);
    };
    children = λ slot at some inside to. absurd (omega (arith, some, leaf));
  }

  visited_inner : 0 < top.level → HasVisited g top mappings 0 old new
  visited_inner some =
      let high = is.level in
      let up : (link : Link) → Contains (links_in top mappings PAGE_SLOTS) link → above link.page ≡ top
      = λ link there. let at = link_slot top mappings PAGE_SLOTS link there in ap (λ (p : PageId). above p) at.2 ∙ above_below top at.0 some at.1 in
      record {
        form = record {
          links = record { added = links_in top mappings PAGE_SLOTS; after = takes.links some; over = λ link there. inl (up link there); once = links_once top mappings PAGE_SLOTS };
          slots = slots_taken;
          each = λ link there.
              let at = link_slot top mappings PAGE_SLOTS link there in
              let level = ap (λ (p : PageId). p.level) at.2 in
              record {
                page = subst (λ (p : PageId). IsInTree g p) (sym at.2) (below_in_tree g top at.0 is some at.1);
                below = omega (arith, level, some, high);
                data_block = leads_to g (slice_index_or mappings at.0 Unmapped) link.at (leads at.0 at.1) at.3;
              };
          parents = λ link there. inl (up link there);
        };
        children = λ slot at some' inside to. (links_are top mappings PAGE_SLOTS (page_below top slot) at).1 (slot, inside, refl, to);
      }

  pub visited : HasVisited g top mappings 0 old new
  visited = elim (cases_lt 0 top.level) [ inl some ↦ visited_inner some | inr none ↦ visited_leaf (omega (arith, none)) ]

-- Slots.

apart_slots : (top page : PageId) (slot : ℕ) → 0 < top.level → IsUpTo top slot page → IsUnder (page_below top slot) page → ⊥
apart_slots top page slot some (inl same) under = let level = under.2 in let own = ap (λ (p : PageId). p.level) same in omega (arith, level, own, some)
apart_slots top page slot some (inr (other, before, inside, under')) under =
    let levels : under'.0 ≡ under.0 = let one = under'.2 in let two = under.2 in omega (arith, one, two) in
    let index : top.index * PAGE_SLOTS + other ≡ top.index * PAGE_SLOTS + slot
    = sym under'.3 ∙ ap (λ (n : ℕ). page.index / PAGE_SLOTS ^ n) levels ∙ under.3 in
    omega (arith, index, before)

pub slot_walked : (g : Geometry) (top : PageId) (mappings : List Mapping) (slot : ℕ) (below : Link) (at : Pbn) (old middle new : Found) → 0 < top.level → slot < PAGE_SLOTS
    → slice_index_or mappings slot Unmapped ≡ At at → below ≡ record { page = page_below top slot; at = at }
    → HasVisited g top mappings slot old middle → AddsForm g (λ page. page ≡ below.page) (IsUnder below.page) middle new → HasVisited g top mappings (slot + 1) old new
slot_walked g top mappings slot below at old middle new some inside to is visited walked =
    let page : below.page ≡ page_below top slot = ap (λ (l : Link). l.page) is in
    let under : (p : PageId) → IsUnder below.page p → IsUnder (page_below top slot) p = λ p u. subst (λ (q : PageId). IsUnder q p) page u in
    let whole = form_on g (λ p. p ≡ top) (λ p. p ≡ below.page) (IsUpTo top slot) (IsUnder below.page) (IsUpTo top (slot + 1)) old middle new
    (λ p first next. apart_slots top p slot some first (under p next))
    (λ p either. up_to_more top p slot inside (elim either [ inl first ↦ inl first | inr next ↦ inr (under p next) ]))
    visited.form walked
    (λ p own. inr (record { page = page_below top slot; at = at }, visited.children slot at some inside to, sym page ∙ sym own)) in
    record { form = whole.0; children = λ s a some' inside' to'. whole.1 _ (visited.children s a some' inside' to') }

pub slot_passed : (g : Geometry) (top : PageId) (mappings : List Mapping) (slot : ℕ) (old new : Found) → slot < PAGE_SLOTS → HasVisited g top mappings slot old new → HasVisited g top mappings (slot + 1) old new
slot_passed g top mappings slot old new inside visited =
    let wider = form_as g (λ p. p ≡ top) (IsUpTo top slot) (IsUpTo top (slot + 1)) old new (λ p first. up_to_more top p slot inside (inl first)) visited.form in
    record { form = wider.0; children = λ s a some inside' to. wider.1 _ (visited.children s a some inside' to) }

pub all_visited : (g : Geometry) (top : PageId) (mappings : List Mapping) (count : ℕ) (old new : Found) → 0 < top.level → HasVisited g top mappings count old new
    → AddsForm g (λ page. page ≡ top) (IsUnder top) old new
all_visited g top mappings count old new some visited = (form_as g (λ p. p ≡ top) (IsUpTo top count) (IsUnder top) old new (λ p up. under_slots top p count some up) visited.form).0

pub leaf_visited : (g : Geometry) (top : PageId) (mappings : List Mapping) (old new : Found) → HasVisited g top mappings 0 old new → AddsForm g (λ page. page ≡ top) (IsUnder top) old new
leaf_visited g top mappings old new visited =
    (form_as g (λ p. p ≡ top) (IsUpTo top 0) (IsUnder top) old new (λ p up. subst (λ (q : PageId). IsUnder top q) (sym (no_slots_yet top p up)) (under_itself top)) visited.form).0

-- Trees.

pub no_trees : (g : Geometry) (found : Found) → AddsForm g (IsRootPage g) (IsInTrees 0) found found
no_trees g found = record {
  links = record { added = []; after = sym (append-nil found.links.items); over = λ x there. absurd (none_in x there); once = pairs_none (λ (x y : Link). SamePage x y → ⊥) };
  slots = record { added = []; after = sym (append-nil found.slots.items); over = λ x there. absurd (none_in x there); once = pairs_none (λ (x y : SlotChange). SameSlot x y → ⊥) };
  each = λ link there. absurd (none_in link there);
  parents = λ link there. absurd (none_in link there);
}

pub tree_formed : (g : Geometry) (tree : ℕ) (root : Link) (old middle new : Found) → IsRoot g tree root → AddsForm g (IsRootPage g) (IsInTrees tree) old middle
    → AddsForm g (λ page. page ≡ root.page) (IsUnder root.page) middle new → AddsForm g (IsRootPage g) (IsInTrees (tree + 1)) old new
tree_formed g tree root old middle new is first walked =
    let own : root.page.tree ≡ tree = ap (λ (p : PageId). p.tree) is.0 in
    (form_on g (IsRootPage g) (λ p. p ≡ root.page) (IsInTrees tree) (IsUnder root.page) (IsInTrees (tree + 1)) old middle new
    (λ p before under. let same = under.1 in omega (arith, before, same, own))
    (λ p either. elim either [ inl before ↦ omega (arith, before) | inr under ↦ let same = under.1 in omega (arith, same, own) ])
    first walked
    (λ p top. inl (top ∙ is.0 ∙ ap (λ (t : ℕ). root_page g t) (sym (ap (λ (q : PageId). q.tree) top ∙ own))))).0

pub root_in_tree : (g : Geometry) (tree : ℕ) (root : Link) → 1 ≤ g.height → tree < TREES → IsRoot g tree root → IsInTree g root.page
root_in_tree g tree root high inside is =
    subst (λ (p : PageId). IsInTree g p) (sym is.0)
    (let none : g.height - 1 - (g.height - 1) ≡ 0 = omega arith in
    record { tree = inside; level = omega (arith, high); index = omega (arith, ap (λ (n : ℕ). PAGE_SLOTS ^ n) none) })

pub whole_form : (g : Geometry) (found none : Found) → none.links.items ≡ [] → none.slots.items ≡ [] → AddsForm g (IsRootPage g) (IsInTrees TREES) none found → HasForm g found.links.items found.slots.items
whole_form g found none empty empty_too walked =
    let links : found.links.items ≡ walked.links.added = walked.links.after ∙ ap (λ (xs : List Link). xs ++ walked.links.added) empty in
    let slots : found.slots.items ≡ walked.slots.added = walked.slots.after ∙ ap (λ (xs : List SlotChange). xs ++ walked.slots.added) empty_too in
    subst (λ (xs : List Link). HasForm g xs found.slots.items) (sym links)
    (subst (λ (ys : List SlotChange). HasForm g walked.links.added ys) (sym slots)
    (record { each = walked.each; parents = walked.parents; once = walked.links.once; slots_once = walked.slots.once }))
