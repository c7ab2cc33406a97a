-- Entries in the order of their pages: where one stands, and that the order stays.
use Rattle.std.specs.Prelude.{ℕ, zero, suc, ◌≡◌, ◌<◌, ◌≤◌, ◌+◌, ◌-◌, ◌⊎◌, List, ◌∷◌, ◌++◌, length, Contains, HoldsAt, refl}
use Rattle.std.proofs.Common.{ap, ap₂, take, drop, drop-cons, ◌∙◌, sym, subst, arith, get_or, inl, inr, Result, Ok, Err, IfOk, IfErr, Ordering, Less, Equal, Greater}
use Rattle.std.specs.List.{insert, remove}
use Rattle.std.specs.List.Sorted.{IsSearchInRange, IsBinarySearchResult, IsPartitionPoint}
use Rattle.std.specs.Ordering.{ordering_reverse, ordering_then, is_lt, nat_cmp}
use Rattle.std.specs.Cmp.{IsTotalOrder}
use Rattle.std.proofs.lemmas.Bool.{cases_eq, cases_lt}
use Rattle.std.proofs.lemmas.Cmp.{on_total, then_total, tied_itself, nat_cmp_total, ranked}
use Rattle.std.proofs.lemmas.List.{get_or_default, take-append-drop}
use Rattle.std.proofs.lemmas.List.Elements.{Contains-append_left, Contains-append_right, Contains-append_cases}
use Rattle.std.proofs.lemmas.List.Edits.{get_or-insert_at, get_or-insert_below, get_or-insert_above, get_or-remove_below, get_or-remove_above, length-insert, length-remove}
use Rattle.std.proofs.lemmas.List.Sorted.{searchable_from_sorted}
use Rattle.blk_base.specs.declared.place.PageId.{PageId}
use Rattle.blk_base.proofs.PageIdLaws.{same_page}
use Rattle.blk_base.specs.Pages.{page_order}
use Rattle.map_page_cache.specs.declared.index.IndexEntry.{IndexEntry}
use Rattle.map_page_cache.specs.Index.{Index, HasSlot, Adds, Removes, AreInOrder, IsBefore, IsBehind}

page_total : IsTotalOrder page_order
page_total = then_total (on_total (λ (p : PageId). p.tree) nat_cmp_total) (then_total (on_total (λ (p : PageId). p.level) nat_cmp_total) (on_total (λ (p : PageId). p.index) nat_cmp_total))

-- what is before a page is behind none that it is before
greater_less : (p q : PageId) → page_order p q ≡ Greater → page_order q p ≡ Less
greater_less p q greater = page_total.antisymm q p ∙ ap ordering_reverse greater

less_greater : (p q : PageId) → page_order p q ≡ Less → page_order q p ≡ Greater
less_greater p q less = page_total.antisymm q p ∙ ap ordering_reverse less

-- no page is before itself
apart : (p q : PageId) → page_order p q ≡ Less → p ≡ q → ⊥
apart p q less same =
    let own : page_order p q ≡ Equal = ap (λ (r : PageId). page_order p r) (sym same) ∙ tied_itself page_total p in
    cc

both_equal : (o p : Ordering) → ordering_then o p ≡ Equal → (o ≡ Equal) × (p ≡ Equal)
both_equal Equal p equal = (refl, equal)
both_equal Less p equal = absurd cc
both_equal Greater p equal = absurd cc

equal_pages : (p q : PageId) → page_order p q ≡ Equal → p ≡ q
equal_pages p q equal =
    let tree = both_equal (nat_cmp p.tree q.tree) _ equal in
    let level = both_equal (nat_cmp p.level q.level) _ tree.1 in
    same_page p q (ranked _ _ _ (sym tree.0)) (ranked _ _ _ (sym level.0)) (ranked _ _ _ (sym level.1))

-- what a search by pages finds: the page's place, or its gap
pub searched : (entries : List IndexEntry) (page : PageId) (r : Result ℕ ℕ) → AreInOrder entries → IsSearchInRange r (length entries)
    → IsBinarySearchResult (λ e. page_order e.page page) entries r
    → record { bound : IsSearchInRange r (length entries); found : IfOk r (HoldsAt (λ e. e.page ≡ page) entries); gap : IfErr r (IsPartitionPoint (IsBefore page) (IsBehind page) entries) }
searched entries page (Ok place) order inside equal = record { bound = inside; found = λ d. equal_pages _ page (equal d); gap = tt }
searched entries page (Err place) order inside parted =
    let sorted = searchable_from_sorted page_total (λ (e : IndexEntry). e.page) entries page (λ k d from within.
    ap is_lt (page_total.antisymm (get_or entries (k + 1) d).page (get_or entries k d).page ∙ ap ordering_reverse (order k (k + 1) d (omega arith) within))) in
    record { bound = inside; found = tt; gap = parted sorted }

-- an entry at the place of the page is the page's
pub slot_at : (index : Index) (page : PageId) (place slot : ℕ) (d : IndexEntry) → place < length index.entries → HoldsAt (λ e. e.page ≡ page) index.entries place
    → slot ≡ (get_or index.entries place d).slot → HasSlot index page slot
slot_at index page place slot d inside found is =
    let entry : IndexEntry = record { page = page; slot = slot } in
    let same = get_or_default index.entries place d entry inside in (
      place,
      inside,
      ap (λ (p : PageId). record { page = p; slot = (get_or index.entries place entry).slot }) (found entry)
          ∙ ap (λ (s : ℕ). record { page = page; slot = s }) (sym (is ∙ ap (λ (e : IndexEntry). e.slot) same)),
    )

-- a page that has a gap has no entry
pub no_slot : (index : Index) (page : PageId) (place : ℕ) → IsPartitionPoint (IsBefore page) (IsBehind page) index.entries place
    → (slot : ℕ) → HasSlot index page slot → ⊥
no_slot index page place gap = λ slot has.
    let entry : IndexEntry = record { page = page; slot = slot } in
    let same : (get_or index.entries has.0 entry).page ≡ page = ap (λ (e : IndexEntry). e.page) has.2 in
    elim (cases_lt has.0 place) [
      | inl first ↦ apart _ _ (gap.0 has.0 entry (omega arith) first) same
      | inr last ↦ apart _ _ (greater_less (get_or index.entries has.0 entry).page page (gap.1 has.0 entry last has.1)) (sym same)
    ]

-- an element of a list with one more in it is that one, or an element without it
first_or_rest : (entries : List IndexEntry) (new e : IndexEntry) → Contains (new ∷ entries) e → (new ≡ e) ⊎ Contains entries e
first_or_rest entries new e (zero, inside, is) = inl is
first_or_rest entries new e (suc k, inside, is) = inr (k, omega arith, is)

new_or_old : (before behind : List IndexEntry) (new e : IndexEntry) → Contains (before ++ new ∷ behind) e → (new ≡ e) ⊎ Contains (before ++ behind) e
new_or_old before behind new e has = elim (Contains-append_cases before (new ∷ behind) e has) [
  | inl first ↦ inr (Contains-append_left before behind e first)
  | inr later ↦ elim (first_or_rest behind new e later) [ inl here ↦ inl here | inr last ↦ inr (Contains-append_right before behind e last) ]
]

still_there : (before behind : List IndexEntry) (new e : IndexEntry) → Contains (before ++ behind) e → Contains (before ++ new ∷ behind) e
still_there before behind new e has = elim (Contains-append_cases before behind e has) [
  | inl first ↦ Contains-append_left before (new ∷ behind) e first
  | inr (k, inside, is) ↦ Contains-append_right before (new ∷ behind) e (suc k, omega arith, is)
]

-- the elements behind the gap are those from it on
behind_gap : (entries : List IndexEntry) (place : ℕ) (entry d : IndexEntry) (k j : ℕ) → place ≤ length entries → place ≤ k → j ≡ k + 1
    → get_or (insert entries place entry) j d ≡ get_or entries k d
behind_gap entries place entry d k j inside from is =
    ap (λ (n : ℕ). get_or (insert entries place entry) n d) is ∙ get_or-insert_above entries place entry d k from inside

-- entries that are equal to two in order are in order
moved : (a a' b b' : IndexEntry) → a' ≡ a → b' ≡ b → page_order a.page b.page ≡ Less → page_order a'.page b'.page ≡ Less
moved a a' b b' left right less =
    ap (λ (e : IndexEntry). page_order e.page b'.page) left ∙ ap (λ (e : IndexEntry). page_order a.page e.page) right ∙ less

-- in a gap the order stays
pub order-insert : (entries : List IndexEntry) (place : ℕ) (entry : IndexEntry) → AreInOrder entries → place ≤ length entries
    → IsPartitionPoint (IsBefore entry.page) (IsBehind entry.page) entries place → AreInOrder (insert entries place entry)
order-insert entries place entry order within gap = λ i j d rising inside.
    let size = length-insert entries place entry within in
    let here : (k : ℕ) → k ≡ place → get_or (insert entries place entry) k d ≡ entry
    = λ k is. ap (λ (n : ℕ). get_or (insert entries place entry) n d) is ∙ get_or-insert_at entries place entry d within in
    let below : (k : ℕ) → k < place → get_or (insert entries place entry) k d ≡ get_or entries k d
    = λ k h. get_or-insert_below entries place entry d k h within in
    let above : (k : ℕ) → place < k → get_or (insert entries place entry) k d ≡ get_or entries (k - 1) d
    = λ k h. behind_gap entries place entry d (k - 1) k within (omega arith) (omega arith) in
    elim (cases_lt j place) [
      | inl first ↦ moved _ _ _ _ (below i (omega arith)) (below j first) (order i j d rising (omega arith))
      | inr from ↦ elim (cases_eq j place) [
        | inl at ↦ moved _ _ _ _ (below i (omega arith)) (here j at) (gap.0 i d (omega arith) (omega arith))
        | inr past ↦ elim (cases_lt i place) [
          | inl first ↦ moved _ _ _ _ (below i first) (above j (omega arith)) (order i (j - 1) d (omega arith) (omega arith))
          | inr behind ↦ elim (cases_eq i place) [
            | inl at ↦ moved _ _ _ _ (here i at) (above j (omega arith)) (greater_less (get_or entries (j - 1) d).page entry.page (gap.1 (j - 1) d (omega arith) (omega arith)))
            | inr beyond ↦ moved _ _ _ _ (above i (omega arith)) (above j (omega arith)) (order (i - 1) (j - 1) d (omega arith) (omega arith))
          ]
        ]
      ]
    ]

-- an entry in its gap: its page has the slot, and all others keep theirs
pub adds : (room place slot : ℕ) (entries : List IndexEntry) (page : PageId) (index : Index) → record { room = room; entries = entries } ≡ index
    → place ≤ length entries → IsPartitionPoint (IsBefore page) (IsBehind page) entries place
    → Adds index (record { room = room; entries = insert entries place (record { page = page; slot = slot }) }) page slot
adds room place slot entries page index is inside gap =
    let entry : IndexEntry = record { page = page; slot = slot } in
    let before = take place entries in
    let behind = drop place entries in
    let whole = take-append-drop place entries in
    rw (← is) (record {
      room = refl;
      count = length-insert entries place entry inside;
      added = Contains-append_right before (entry ∷ behind) entry (0, omega arith, refl);
      kept = λ other s has. still_there before behind entry _ (subst (λ (es : List IndexEntry). Contains es (record { page = other; slot = s })) (sym whole) has);
      only = λ other s has. elim (new_or_old before behind entry _ has) [
        | inl same ↦ inr (sym (ap (λ (i : IndexEntry). i.page) same), sym (ap (λ (i : IndexEntry). i.slot) same))
        | inr old ↦ inl (subst (λ (es : List IndexEntry). Contains es (record { page = other; slot = s })) whole old)
      ];
    })

-- without one of them the order stays
pub order-remove : (entries : List IndexEntry) (place : ℕ) → AreInOrder entries → place < length entries → AreInOrder (remove entries place)
order-remove entries place order inside = λ i j d rising within.
    let size = length-remove entries place inside in
    let below = λ (k : ℕ) (h : k < place). get_or-remove_below entries place d k h inside in
    let above = λ (k : ℕ) (h : place ≤ k). get_or-remove_above entries place d k h inside in
    elim (cases_lt j place) [
      | inl first ↦ moved _ _ _ _ (below i (omega arith)) (below j first) (order i j d rising (omega arith))
      | inr last ↦ elim (cases_lt i place) [
        | inl first ↦ moved _ _ _ _ (below i first) (above j last) (order i (j + 1) d (omega arith) (omega arith))
        | inr behind ↦ moved _ _ _ _ (above i behind) (above j last) (order (i + 1) (j + 1) d (omega arith) (omega arith))
      ]
    ]

-- without its entry: the page has no slot, and all others keep theirs
pub removes : (room place : ℕ) (entries : List IndexEntry) (page : PageId) (index : Index) → record { room = room; entries = entries } ≡ index
    → AreInOrder entries → place < length entries → HoldsAt (λ e. e.page ≡ page) entries place
    → Removes index (record { room = room; entries = remove entries place }) page
removes room place entries page index is order inside found =
    let size = length-remove entries place inside in
    let d : IndexEntry = record { page = page; slot = 0 } in
    let before = take place entries in
    let behind = drop (suc place) entries in
    let whole : before ++ get_or entries place d ∷ behind ≡ entries = ap (λ (es : List IndexEntry). before ++ es) (sym (drop-cons entries place d inside)) ∙ take-append-drop place entries in
    let gap : IsPartitionPoint (IsBefore page) (IsBehind page) (remove entries place) place = (
      (λ k e from below. ap₂ (λ (i : IndexEntry) (p : PageId). page_order i.page p) (get_or-remove_below entries place e k below inside) (sym (found e))
          ∙ order k place e below inside),
      (λ k e from within. ap₂ (λ (i : IndexEntry) (p : PageId). page_order i.page p) (get_or-remove_above entries place e k from inside) (sym (found e))
          ∙ less_greater (get_or entries place e).page (get_or entries (k + 1) e).page (order place (k + 1) e (omega arith) (omega arith))),
    ) in
    rw (← is) (record {
      room = refl;
      count = size;
      gone = no_slot (record { room = room; entries = remove entries place }) page place gap;
      kept = λ other s apart has. elim (new_or_old before behind (get_or entries place d) _ (subst (λ (es : List IndexEntry). Contains es (record { page = other; slot = s })) (sym whole) has)) [
        | inl same ↦ absurd (apart (sym (ap (λ (i : IndexEntry). i.page) same) ∙ found d))
        | inr old ↦ old
      ];
      only = λ other s has. subst (λ (es : List IndexEntry). Contains es (record { page = other; slot = s })) whole (still_there before behind (get_or entries place d) _ has);
    })
