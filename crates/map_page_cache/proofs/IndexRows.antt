-- Which slot each page has, and how that follows from the pages in the frames: small lists, each of which is accepted, or breaks
-- one clause alone and is refused.
use Rattle.std.proofs.Common.{ℕ, zero, suc, ◌≡◌, ◌<◌, ◌≤◌, ◌⊎◌, true, false, List, [], ◌∷◌, slice_index_or, refl, ap, ap₂, sym, inl, inr, arith}
use Rattle.std.specs.declared.cmp.Ordering.TheVariants.{Equal, Greater, Less}
use Rattle.blk_base.specs.declared.place.PageId.{PageId}
use Rattle.dirty_pages.specs.DirtyPoints.{clean, dirty_points_at, clean_of}
use Rattle.page_codec.specs.declared.forms.MapPage.{MapPage}
use Rattle.map_page_cache.specs.Frames.{AreFlags, Follows, IsAt}
use Rattle.map_page_cache.specs.Index.{Adds, AreInOrder, HasSlot, Index, IsBefore, IsBehind, Removes, no_entries}
use Rattle.map_page_cache.specs.declared.index.IndexEntry.{IndexEntry}
use Rattle.map_page_cache.proofs.OperationRows.{dirty, leaf, page}

abbrev entry : ℕ → ℕ → IndexEntry
entry index slot = record { page = page index; slot = slot }

abbrev index_of : List IndexEntry → Index
index_of entries = record { room = 3; entries = entries }

-- what an entry says
same_page : (i j n m : ℕ) → entry i n ≡ entry j m → i ≡ j
same_page i j n m same = ap (λ (e : IndexEntry). e.page.index) same

-- HasSlot, no_entries

has_slot : HasSlot (index_of (entry 0 5 ∷ entry 1 6 ∷ [])) (page 1) 6
has_slot = (1, omega arith, refl)

has_another : HasSlot (index_of (entry 0 5 ∷ [])) (page 0) 6 → ⊥
has_another (zero, inside, same) = omega (arith, ap (λ (e : IndexEntry). e.slot) same)
has_another (suc k, inside, same) = omega (arith, inside)

has_none : (p : PageId) (slot : ℕ) → HasSlot (no_entries 3) p slot → ⊥
has_none p slot has = omega (arith, has.1)

-- of one entry, and of two

of_one : (i n : ℕ) (p : PageId) (slot : ℕ) → HasSlot (index_of (entry i n ∷ [])) p slot → (p ≡ page i) × (slot ≡ n)
of_one i n p slot (zero, inside, same) = (ap (λ (e : IndexEntry). e.page) (sym same), ap (λ (e : IndexEntry). e.slot) (sym same))
of_one i n p slot (suc k, inside, same) = absurd (omega (arith, inside))

of_two : (i n j m : ℕ) (p : PageId) (slot : ℕ) → HasSlot (index_of (entry i n ∷ entry j m ∷ [])) p slot → ((p ≡ page i) × (slot ≡ n)) ⊎ ((p ≡ page j) × (slot ≡ m))
of_two i n j m p slot (zero, inside, same) = inl (ap (λ (e : IndexEntry). e.page) (sym same), ap (λ (e : IndexEntry). e.slot) (sym same))
of_two i n j m p slot (suc zero, inside, same) = inr (ap (λ (e : IndexEntry). e.page) (sym same), ap (λ (e : IndexEntry). e.slot) (sym same))
of_two i n j m p slot (suc (suc k), inside, same) = absurd (omega (arith, inside))

first_of : (i n : ℕ) (more : List IndexEntry) (p : PageId) (slot : ℕ) → (p ≡ page i) × (slot ≡ n) → HasSlot (index_of (entry i n ∷ more)) p slot
first_of i n more p slot is = (0, omega arith, ap₂ (λ (q : PageId) (s : ℕ). record { page = q; slot = s }) (sym is.0) (sym is.1))

-- Adds: page 1 gets the slot 6

adds : Adds (index_of (entry 0 5 ∷ [])) (index_of (entry 0 5 ∷ entry 1 6 ∷ [])) (page 1) 6
adds = record {
  room = refl;
  count = refl;
  added = has_slot;
  kept = λ other s has. first_of 0 5 (entry 1 6 ∷ []) other s (of_one 0 5 other s has);
  only = λ other s has. elim (of_two 0 5 1 6 other s has) [ inl first ↦ inl (first_of 0 5 [] other s first) | inr second ↦ inr second ];
}

-- room
adds_room : Adds (index_of (entry 0 5 ∷ [])) (record { room = 4; entries = entry 0 5 ∷ entry 1 6 ∷ [] }) (page 1) 6 → ⊥
adds_room is = omega (arith, is.room)

-- count: it is there once
adds_twice : Adds (index_of (entry 0 5 ∷ [])) (index_of (entry 0 5 ∷ entry 1 6 ∷ entry 1 6 ∷ [])) (page 1) 6 → ⊥
adds_twice is = omega (arith, is.count)

-- added
adds_nothing : Adds (index_of (entry 0 5 ∷ [])) (index_of (entry 0 5 ∷ entry 0 5 ∷ [])) (page 1) 6 → ⊥
adds_nothing is = elim (of_two 0 5 0 5 (page 1) 6 is.added) [
  | inl first ↦ omega (arith, first.1)
  | inr second ↦ omega (arith, second.1)
]

-- kept
adds_and_forgets : Adds (index_of (entry 0 5 ∷ [])) (index_of (entry 1 6 ∷ entry 1 6 ∷ [])) (page 1) 6 → ⊥
adds_and_forgets is = elim (of_two 1 6 1 6 (page 0) 5 (is.kept (page 0) 5 (0, omega arith, refl))) [
  | inl first ↦ omega (arith, first.1)
  | inr second ↦ omega (arith, second.1)
]

-- only
adds_another_too : Adds (index_of (entry 0 5 ∷ entry 0 5 ∷ [])) (index_of (entry 0 5 ∷ entry 1 6 ∷ entry 2 7 ∷ [])) (page 1) 6 → ⊥
adds_another_too is = elim (is.only (page 2) 7 (2, omega arith, refl)) [
  | inl old ↦ elim (of_two 0 5 0 5 (page 2) 7 old) [ inl first ↦ omega (arith, first.1) | inr second ↦ omega (arith, second.1) ]
  | inr new ↦ omega (arith, new.1)
]

-- Removes: page 1 has no slot any longer

removes : Removes (index_of (entry 0 5 ∷ entry 1 6 ∷ [])) (index_of (entry 0 5 ∷ [])) (page 1)
removes = record {
  room = refl;
  count = refl;
  gone = λ s has. omega (arith, ap (λ (q : PageId). q.index) (of_one 0 5 (page 1) s has).0);
  kept = λ other s differ has. elim (of_two 0 5 1 6 other s has) [ inl first ↦ first_of 0 5 [] other s first | inr second ↦ absurd (differ second.0) ];
  only = λ other s has. first_of 0 5 (entry 1 6 ∷ []) other s (of_one 0 5 other s has);
}

-- room
removes_room : Removes (index_of (entry 0 5 ∷ entry 1 6 ∷ [])) (record { room = 2; entries = entry 0 5 ∷ [] }) (page 1) → ⊥
removes_room is = omega (arith, is.room)

-- count
removes_none : Removes (index_of (entry 0 5 ∷ entry 1 6 ∷ [])) (index_of (entry 0 5 ∷ entry 0 5 ∷ [])) (page 1) → ⊥
removes_none is = omega (arith, is.count)

-- gone
removes_one_of_two : Removes (index_of (entry 0 5 ∷ entry 1 6 ∷ entry 1 6 ∷ [])) (index_of (entry 0 5 ∷ entry 1 6 ∷ [])) (page 1) → ⊥
removes_one_of_two is = is.gone 6 (1, omega arith, refl)

-- kept
removes_another_too : Removes (index_of (entry 0 5 ∷ entry 2 7 ∷ entry 1 6 ∷ [])) (index_of (entry 0 5 ∷ entry 0 5 ∷ [])) (page 1) → ⊥
removes_another_too is = elim (of_two 0 5 0 5 (page 2) 7 (is.kept (page 2) 7 (λ same. omega (arith, ap (λ (q : PageId). q.index) same)) (1, omega arith, refl))) [
  | inl first ↦ omega (arith, first.1)
  | inr second ↦ omega (arith, second.1)
]

-- only
removes_and_adds : Removes (index_of (entry 0 5 ∷ entry 0 5 ∷ entry 1 6 ∷ [])) (index_of (entry 0 5 ∷ entry 2 7 ∷ [])) (page 1) → ⊥
removes_and_adds is = never (is.only (page 2) 7 (1, omega arith, refl))
  where
    never : HasSlot (index_of (entry 0 5 ∷ entry 0 5 ∷ entry 1 6 ∷ [])) (page 2) 7 → ⊥
    never (zero, inside, same) = omega (arith, same_page 0 2 5 7 same)
    never (suc zero, inside, same) = omega (arith, same_page 0 2 5 7 same)
    never (suc (suc zero), inside, same) = omega (arith, same_page 1 2 6 7 same)
    never (suc (suc (suc k)), inside, same) = omega (arith, inside)

-- AreInOrder

in_order : AreInOrder (entry 0 6 ∷ entry 1 5 ∷ [])
in_order zero zero d before inside = absurd (omega (arith, before))
in_order zero (suc zero) d before inside = refl
in_order zero (suc (suc k)) d before inside = absurd (omega (arith, inside))
in_order (suc j) zero d before inside = absurd (omega (arith, before))
in_order (suc j) (suc zero) d before inside = absurd (omega (arith, before))
in_order (suc j) (suc (suc k)) d before inside = absurd (omega (arith, inside))

out_of_order : AreInOrder (entry 1 5 ∷ entry 0 6 ∷ []) → ⊥
out_of_order are = let first : Greater ≡ Less = are 0 1 (entry 0 0) (omega arith) (omega arith) in absurd (cc first)

twice_in_order : AreInOrder (entry 0 5 ∷ entry 0 6 ∷ []) → ⊥
twice_in_order are = let first : Equal ≡ Less = are 0 1 (entry 0 0) (omega arith) (omega arith) in absurd (cc first)

-- IsBefore, IsBehind: which entries are of the pages before one, and behind it

before_it : IsBefore (page 1) (entry 0 6)
before_it = refl

not_before_itself : IsBefore (page 1) (entry 1 6) → ⊥
not_before_itself is = let own : Equal ≡ Less = is in absurd (cc own)

not_before_an_earlier_one : IsBefore (page 1) (entry 2 5) → ⊥
not_before_an_earlier_one is = let later : Greater ≡ Less = is in absurd (cc later)

behind_it : IsBehind (page 1) (entry 2 5)
behind_it = refl

not_behind_itself : IsBehind (page 1) (entry 1 6) → ⊥
not_behind_itself is = let own : Equal ≡ Greater = is in absurd (cc own)

not_behind_a_later_one : IsBehind (page 1) (entry 0 6) → ⊥
not_behind_a_later_one is = let earlier : Less ≡ Greater = is in absurd (cc earlier)

-- IsAt: the page is in this frame

abbrev two : List MapPage
two = leaf 0 ∷ leaf 1 ∷ []

is_at : IsAt two (page 1) 1
is_at = record { inside = omega arith; named = λ d. refl }

at_another : IsAt two (page 0) 1 → ⊥
at_another is = omega (arith, ap (λ (q : PageId). q.index) (is.named (leaf 0)))

at_none : (p : PageId) → IsAt two p 2 → ⊥
at_none p is = omega (arith, is.inside)

-- Follows: the index has both pages

follows : Follows (index_of (entry 0 0 ∷ entry 1 1 ∷ [])) 3 two
follows = record {
  room = refl;
  count = refl;
  pages_at = λ p frame has. elim (of_two 0 0 1 1 p frame has) [ inl first ↦ at_first p frame first | inr second ↦ at_second p frame second ];
  all = λ p frame is. has_frame frame p (is.inside) (is.named (leaf 0));
}
  where
    at_first : (p : PageId) (frame : ℕ) → (p ≡ page 0) × (frame ≡ 0) → IsAt two p frame
    at_first p frame is = rw is.0 (rw is.1 record { inside = omega arith; named = λ d. refl })

    at_second : (p : PageId) (frame : ℕ) → (p ≡ page 1) × (frame ≡ 1) → IsAt two p frame
    at_second p frame is = rw is.0 (rw is.1 record { inside = omega arith; named = λ d. refl })

    has_frame : (frame : ℕ) (p : PageId) → frame < 2 → (slice_index_or two frame (leaf 0)).head.page ≡ p → HasSlot (index_of (entry 0 0 ∷ entry 1 1 ∷ [])) p frame
    has_frame zero p below named = (0, omega arith, ap (λ (q : PageId). record { page = q; slot = 0 }) named)
    has_frame (suc zero) p below named = (1, omega arith, ap (λ (q : PageId). record { page = q; slot = 1 }) named)
    has_frame (suc (suc k)) p below named = absurd (omega (arith, below))

-- room
follows_with_less_room : Follows (index_of (entry 0 0 ∷ entry 1 1 ∷ [])) 2 two → ⊥
follows_with_less_room is = omega (arith, is.room)

-- count
follows_with_one_twice : Follows (index_of (entry 0 0 ∷ entry 1 1 ∷ entry 1 1 ∷ [])) 3 two → ⊥
follows_with_one_twice is = omega (arith, is.count)

-- pages_at: a page that is in no frame
follows_with_another : Follows (index_of (entry 0 0 ∷ entry 2 0 ∷ [])) 3 (leaf 0 ∷ leaf 0 ∷ []) → ⊥
follows_with_another is = omega (arith, ap (λ (q : PageId). q.index) ((is.pages_at (page 2) 0 (1, omega arith, refl)).named (leaf 0)))

-- all: one that it doesn't have
follows_without_one : Follows (index_of (entry 0 0 ∷ entry 0 0 ∷ [])) 3 two → ⊥
follows_without_one is = elim (of_two 0 0 0 0 (page 1) 1 (is.all (page 1) 1 is_at)) [
  | inl first ↦ omega (arith, first.1)
  | inr second ↦ omega (arith, second.1)
]

-- AreFlags: of three frames one has a clean page, and one a dirty one

are_flags : AreFlags (true ∷ false ∷ false ∷ []) 3 2 (clean ∷ dirty ∷ clean ∷ [])
are_flags = record { size = refl; here = λ frame below. at frame below; empty = λ frame past. behind frame past }
  where
    at : (frame : ℕ) → frame < 2 → slice_index_or (true ∷ false ∷ false ∷ []) frame false ≡ clean_of (dirty_points_at (clean ∷ dirty ∷ clean ∷ []) frame)
    at zero below = refl
    at (suc zero) below = refl
    at (suc (suc k)) below = absurd (omega (arith, below))

    behind : (frame : ℕ) → 2 ≤ frame → slice_index_or (true ∷ false ∷ false ∷ []) frame false ≡ false
    behind zero past = absurd (omega (arith, past))
    behind (suc zero) past = absurd (omega (arith, past))
    behind (suc (suc zero)) past = refl
    behind (suc (suc (suc k))) past = refl

-- size
flags_of_two : AreFlags (true ∷ false ∷ []) 3 2 (clean ∷ dirty ∷ clean ∷ []) → ⊥
flags_of_two are = omega (arith, are.size)

-- here
flags_of_a_dirty_one : AreFlags (true ∷ true ∷ false ∷ []) 3 2 (clean ∷ dirty ∷ clean ∷ []) → ⊥
flags_of_a_dirty_one are = let flag : true ≡ false = are.here 1 (omega arith) in absurd (cc flag)

-- empty
flags_of_an_empty_frame : AreFlags (true ∷ false ∷ true ∷ []) 3 2 (clean ∷ dirty ∷ clean ∷ []) → ⊥
flags_of_an_empty_frame are = let flag : true ≡ false = are.empty 2 (omega arith) in absurd (cc flag)
