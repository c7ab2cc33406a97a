-- What learning and closing leave of a book that is kept.
use Rattle.std.specs.Prelude.{ℕ, ◌≡◌, ◌≢◌, ◌<◌, ◌≤◌, ◌+◌, ◌*◌, ◌/◌, ◌%◌, ◌||◌, ◌&&◌, Bool, true, false, not, List, [], ◌∷◌, ◌++◌, length, cond, All, None, Some, IsSome, nat_eq, slice_index_or, refl}
use Rattle.std.specs.List.{insert, remove}
use Rattle.std.proofs.Common.{sym, ◌∙◌, ap, subst, arith, inl, inr, length-append}
use Rattle.std.proofs.lemmas.Bool.{false≢true, eqb-true, eq-eqb, ne_eqb, lt-ltb, le-ltb, le-leb, lt-leb, cases_eq, cases_lt}
use Rattle.std.proofs.lemmas.Nat.{mod_below, column_fits}
use Rattle.std.proofs.Math.Nat.{mod-add-div}
use Rattle.uds_chapters.specs.declared.entry.Record.{Record}
use Rattle.uds_chapters.specs.declared.added.Added.TheVariants.{New, Replaced, Full}
use Rattle.uds_chapters.specs.Chapters.{Adds, Numbered, location_of, with_record, records_in}
use Rattle.uds_chapters.specs.Pages.{IsPage}
use Rattle.index_advice.specs.Advices.{HasDuePage}
use Rattle.index_advice.specs.Books.{Book, DuePage, chapter_of, number_after, has_number, chapters_elsewhere, pages_elsewhere, pages_of, closed, has_room, has_written, added, learnt, has_records, finished}
use Rattle.std.proofs.lemmas.List.Elements.{All-head, All-tail}
use Rattle.index_advice.specs.Orders.{IsInOrder, IsOfKept}
use Rattle.index_advice.proofs.BookLaws.{closed_in_order, learnt_in_order}
use Rattle.uds_index.specs.Rooms.{count_at, FewAtPlaces, place_of_chapter, place_of_page}
use Rattle.uds_index.specs.Places.{IsKept}
use Rattle.uds_index.proofs.RoomLaws.{few_in_all, few_behind, few_before}

-- the open chapter has a number, or none
pub numbered : (book : Book) (number : ℕ) → number ≡ number_after book.kept → number ≤ 4294967294 → has_number book ≡ true
numbered book number is below = le-leb (number_after book.kept) 4294967294 (omega (arith, is, below))

pub unnumbered : (book : Book) → 4294967294 < number_after book.kept → has_number book ≡ false
unnumbered book above = lt-leb (number_after book.kept) 4294967294 above

-- what adding says of the room
room_new : (one : Record) (records : List Record) → location_of one.name records ≡ None → length records < 680 → has_room one records ≡ true
room_new one records none few = rw (none, lt-ltb (length records) 680 few) refl

room_replaced : (one : Record) (records : List Record) → IsSome (location_of one.name records) → has_room one records ≡ true
room_replaced one records some = rw some refl

room_full : (one : Record) (records : List Record) → location_of one.name records ≡ None → length records ≡ 680 → has_room one records ≡ false
room_full one records none full = rw (none, le-ltb (length records) 680 (omega (arith, full))) refl

-- the cases of learning
learnt_there : (one : Record) (book : Book) → has_number book ≡ true → has_room one book.unclosed ≡ true
    → record book { unclosed = with_record one book.unclosed } ≡ learnt one book
learnt_there one book = by (has_number book) (has_room one book.unclosed)
  where
    by : (h r : Bool) → h ≡ true → r ≡ true → record book { unclosed = with_record one book.unclosed }
        ≡ cond (not h || r) (cond h (record book { unclosed = with_record one book.unclosed }) book) (cond (has_written book.due) (added one (closed book)) book)
    by true true number room = refl
    by true false number room = absurd (false≢true room)
    by false r number room = absurd (false≢true number)

pub learnt_nothing : (one : Record) (book : Book) → has_number book ≡ false → book ≡ learnt one book
learnt_nothing one book = by (has_number book) (has_room one book.unclosed)
  where
    by : (h r : Bool) → h ≡ false → book
        ≡ cond (not h || r) (cond h (record book { unclosed = with_record one book.unclosed }) book) (cond (has_written book.due) (added one (closed book)) book)
    by true r none = absurd (false≢true (sym none))
    by false r none = refl

pub learnt_later : (one : Record) (book : Book) → has_number book ≡ true → has_room one book.unclosed ≡ false
    → cond (has_written book.due) (added one (closed book)) book ≡ learnt one book
learnt_later one book = by (has_number book) (has_room one book.unclosed)
  where
    by : (h r : Bool) → h ≡ true → r ≡ false → cond (has_written book.due) (added one (closed book)) book
        ≡ cond (not h || r) (cond h (record book { unclosed = with_record one book.unclosed }) book) (cond (has_written book.due) (added one (closed book)) book)
    by true true number room = absurd (false≢true (sym room))
    by true false number room = refl
    by false r number room = absurd (false≢true number)

-- what adding to the open chapter did is what was to be learnt
pub adds_new : (one : Record) (book : Book) (new : List Record) → has_number book ≡ true → Adds book.unclosed new one New
    → record book { unclosed = new } ≡ learnt one book
adds_new one book new number adds =
    ap (λ (records : List Record). record book { unclosed = records }) adds.2 ∙ learnt_there one book number (room_new one book.unclosed adds.0 adds.1)

pub adds_replaced : (one : Record) (book : Book) (new : List Record) → has_number book ≡ true → Adds book.unclosed new one Replaced
    → record book { unclosed = new } ≡ learnt one book
adds_replaced one book new number adds =
    ap (λ (records : List Record). record book { unclosed = records }) adds.1 ∙ learnt_there one book number (room_replaced one book.unclosed adds.0)

pub adds_full : (one : Record) (book : Book) (new : List Record) → has_number book ≡ true → Adds book.unclosed new one Full
    → cond (has_written book.due) (added one (closed book)) book ≡ learnt one book
adds_full one book new number adds = learnt_later one book number (room_full one book.unclosed adds.0 adds.1)

-- adding to an open chapter that is empty
pub adds_first : (one : Record) (book : Book) (new : List Record) → has_number book ≡ true → book.unclosed ≡ [] → new ≡ with_record one book.unclosed
    → record book { unclosed = new } ≡ added one book
adds_first one book new number empty is =
    ap (λ (records : List Record). record book { unclosed = records }) is ∙ by (has_number book) number
  where
    by : (h : Bool) → h ≡ true → record book { unclosed = with_record one book.unclosed } ≡ cond h (record book { unclosed = with_record one book.unclosed }) book
    by true is = refl
    by false is = absurd (false≢true is)

-- a book that is kept with other records in the open chapter
pub kept_with : (book : Book) (new : List Record) → IsKept book → IsInOrder (record book { unclosed = new }) → IsKept (record book { unclosed = new })
kept_with book new is order = record { some = is.some; blocks = is.blocks; order = order; chapters = is.chapters; pages = is.pages }

pub kept_learnt : (one : Record) (book : Book) (new : List Record) → IsKept book → record book { unclosed = new } ≡ learnt one book
    → IsKept (record book { unclosed = new })
kept_learnt one book new is leads = kept_with book new is (subst IsInOrder (sym leads) (learnt_in_order one book is.order))

-- the pages of a chapter stand at one place
pages_none : (places number place : ℕ) → number % places ≢ place → count_at (place_of_page places) place (pages_of number) ≡ 0
pages_none places number place apart = rw (ne_eqb (number % places) place apart) refl

pages_four : (places number : ℕ) → count_at (place_of_page places) (number % places) (pages_of number) ≤ 4
pages_four places number = rw (eq-eqb (number % places) (number % places) refl) (omega arith)

pub closed_kept : (book : Book) → IsKept book → IsKept (closed book)
closed_kept book is = record {
  some = is.some;
  blocks = is.blocks;
  order = closed_in_order book is.order;
  chapters = few_before (place_of_chapter book.places) (record { number = number_after book.kept; records = book.unclosed }) book.kept is.chapters;
  pages = few_behind (place_of_page book.places) (number_after book.kept % book.places) book.due (pages_of (number_after book.kept)) is.pages
      (pages_none book.places (number_after book.kept)) (pages_four book.places (number_after book.kept));
}

-- there is room for what is kept
pub kept_room : (book : Book) → IsKept book → length book.kept ≤ 4 * book.places
kept_room book is = few_in_all (place_of_chapter book.places) book.places book.kept (λ one. mod_below one.number book.places is.some) is.chapters

pub due_room : (book : Book) → IsKept book → length book.due ≤ 4 * book.places
due_room book is = few_in_all (place_of_page book.places) book.places book.due (λ one. mod_below one.number book.places is.some) is.pages

pub closing_room : (book : Book) → IsKept book → length (chapters_elsewhere book.places (number_after book.kept) book.kept) + 1 ≤ 4 * book.places
closing_room book is = let room = kept_room (closed book) (closed_kept book is) in omega (arith, room)

pub closing_page_room : (book : Book) → IsKept book → length (pages_elsewhere book.places (number_after book.kept) book.due) + 4 ≤ 4 * book.places
closing_page_room book is =
    let both = length-append (pages_elsewhere book.places (number_after book.kept) book.due) (pages_of (number_after book.kept)) in
    let room = due_room (closed book) (closed_kept book is) in
    omega (arith, both, room)

-- the cases of finishing
pub finished_closed : (book : Book) → has_number book ≡ true → has_records book.unclosed ≡ true → closed book ≡ finished book
finished_closed book = by (has_number book) (has_records book.unclosed)
  where
    by : (h r : Bool) → h ≡ true → r ≡ true → closed book ≡ cond (h && r) (closed book) book
    by true true number some = refl
    by true false number some = absurd (false≢true some)
    by false r number some = absurd (false≢true number)

pub finished_unnumbered : (book : Book) → has_number book ≡ false → book ≡ finished book
finished_unnumbered book = by (has_number book) (has_records book.unclosed)
  where
    by : (h r : Bool) → h ≡ false → book ≡ cond (h && r) (closed book) book
    by true r none = absurd (false≢true (sym none))
    by false r none = refl

pub finished_empty : (book : Book) → has_records book.unclosed ≡ false → book ≡ finished book
finished_empty book = by (has_number book) (has_records book.unclosed)
  where
    by : (h r : Bool) → r ≡ false → book ≡ cond (h && r) (closed book) book
    by h true none = absurd (false≢true (sym none))
    by true false none = refl
    by false false none = refl

-- a book that is kept without its first page that is due
pub kept_taken : (book : Book) (page : DuePage) (pages : List DuePage) → book.due ≡ page ∷ pages → IsKept book → IsKept (record book { due = pages })
kept_taken book page pages first is =
    let all : All (IsOfKept book.kept) (page ∷ pages) = subst (λ (ones : List DuePage). All (IsOfKept book.kept) ones) first is.order.due in
    let few : FewAtPlaces (place_of_page book.places) (page ∷ pages) = subst (λ (ones : List DuePage). FewAtPlaces (place_of_page book.places) ones) first is.pages in
    record {
      some = is.some;
      blocks = is.blocks;
      order = record {
        newest_first = is.order.newest_first;
        chapters = is.order.chapters;
        unclosed = is.order.unclosed;
        due = All-tail (IsOfKept book.kept) page pages all;
      };
      chapters = is.chapters;
      pages = λ place. let less = few place in omega (arith, less);
    }

-- the first page is of a chapter that is kept
pub first_is_kept : (book : Book) (page : DuePage) (pages : List DuePage) → book.due ≡ page ∷ pages → IsKept book → IsOfKept book.kept page
first_is_kept book page pages first is =
    All-head (IsOfKept book.kept) page pages (subst (λ (ones : List DuePage). All (IsOfKept book.kept) ones) first is.order.due)

-- a list with one more in front, and without the first
pub insert_first : {X : Type 0} (ones : List X) (new : X) → insert ones 0 new ≡ new ∷ ones
insert_first [] new = refl
insert_first (one ∷ ones) new = refl

remove_first : {X : Type 0} (one : X) (ones : List X) → remove (one ∷ ones) 0 ≡ ones
remove_first one [] = refl
remove_first one (next ∷ ones) = refl

pub taken : (ones left : List DuePage) (first : DuePage) → 0 < length ones → first ≡ slice_index_or ones 0 first → left ≡ remove ones 0 → ones ≡ first ∷ left
taken [] left first some is rest = absurd (omega (arith, some))
taken (one ∷ ones) left first some is rest =
    ap (λ (y : DuePage). y ∷ ones) (sym is) ∙ ap (λ (ys : List DuePage). first ∷ ys) (sym (rest ∙ remove_first one ones))

-- what closing does, step by step
pub closed_by : (book : Book) (number : ℕ) (chapter : Numbered) (left kept : List Numbered) (unclosed : List Record) (pages due : List DuePage)
    → number ≡ number_after book.kept → left ≡ chapters_elsewhere book.places number book.kept
    → chapter ≡ record { number = number; records = book.unclosed } → kept ≡ insert left 0 chapter → unclosed ≡ []
    → pages ≡ pages_elsewhere book.places number book.due → due ≡ pages ++ pages_of number
    → record book { kept = kept; unclosed = unclosed; due = due } ≡ closed book
closed_by book number chapter left kept unclosed pages due n l c k u p d =
    ap (λ (ks : List Numbered). record book { kept = ks; unclosed = unclosed; due = due })
    (k ∙ insert_first left chapter ∙ ap (λ (one : Numbered). one ∷ left) c ∙ ap (λ (ones : List Numbered). record { number = number; records = book.unclosed } ∷ ones) l)
    ∙ ap (λ (rs : List Record). record book {
      kept = record { number = number; records = book.unclosed } ∷ chapters_elsewhere book.places number book.kept;
      unclosed = rs;
      due = due;
    }) u
    ∙ ap (λ (ds : List DuePage). record book {
      kept = record { number = number; records = book.unclosed } ∷ chapters_elsewhere book.places number book.kept;
      unclosed = [];
      due = ds;
    }) (d ∙ ap (λ (ps : List DuePage). ps ++ pages_of number) p)
    ∙ ap (λ (m : ℕ). record book {
      kept = record { number = m; records = book.unclosed } ∷ chapters_elsewhere book.places m book.kept;
      unclosed = [];
      due = pages_elsewhere book.places m book.due ++ pages_of m;
    }) n

-- there is room for what is added then
pub left_room : (book : Book) (number : ℕ) (left : List Numbered) → IsKept book → number ≡ number_after book.kept
    → left ≡ chapters_elsewhere book.places number book.kept → length left + 1 ≤ 4 * book.places
left_room book number left is n l =
    let room = closing_room book is in
    let same : length left ≡ length (chapters_elsewhere book.places (number_after book.kept) book.kept) =
    ap length l ∙ ap (λ (m : ℕ). length (chapters_elsewhere book.places m book.kept)) n in
    omega (arith, room, same)

pub left_page_room : (book : Book) (number : ℕ) (left : List DuePage) → IsKept book → number ≡ number_after book.kept
    → left ≡ pages_elsewhere book.places number book.due → length left + 4 ≤ 4 * book.places
left_page_room book number left is n l =
    let room = closing_page_room book is in
    let same : length left ≡ length (pages_elsewhere book.places (number_after book.kept) book.due) =
    ap length l ∙ ap (λ (m : ℕ). length (pages_elsewhere book.places m book.due)) n in
    omega (arith, room, same)

-- the chapter that is found has the number
found_number : (number : ℕ) (kept : List Numbered) (chapter : Numbered) → chapter_of number kept ≡ Some chapter → chapter.number ≡ number
found_number number [] chapter found = cc
found_number number (one ∷ kept) chapter found = by (nat_eq one.number number) refl (found_number number kept chapter) found
  where
    by : (b : Bool) → nat_eq one.number number ≡ b → (chapter_of number kept ≡ Some chapter → chapter.number ≡ number)
        → cond b (Some one) (chapter_of number kept) ≡ Some chapter → chapter.number ≡ number
    by true same later is = let it : one ≡ chapter = cc in sym (ap (λ (c : Numbered). c.number) it) ∙ eqb-true one.number number same
    by false other later is = later is

pub has_due : (book : Book) (page : DuePage) (pages : List DuePage) (block : List ℕ) (chapter : Numbered) (number i : ℕ) → book.due ≡ page ∷ pages
    → number ≡ page.number → i ≡ page.page → chapter_of number book.kept ≡ Some chapter
    → IsPage book.nonce chapter.number i block (records_in i chapter.records) → HasDuePage book block
has_due book page pages block chapter number i next n p found filled = record {
  page = page;
  pages = pages;
  next = next;
  chapter = chapter;
  kept = sym (ap (λ (m : ℕ). chapter_of m book.kept) n) ∙ found;
  filled = subst (λ (j : ℕ). IsPage book.nonce page.number j block (records_in j chapter.records)) p
      (subst (λ (m : ℕ). IsPage book.nonce m i block (records_in i chapter.records)) (found_number number book.kept chapter found ∙ n) filled);
}

-- numbers that are near, and aren't the same, stand at other places
near : (places low high : ℕ) → low < high → high < low + places → low % places ≡ high % places → ⊥
near places low high above below same = elim (cases_lt (low / places) (high / places)) [
  | inl less ↦
      let first = mod-add-div low places in let second = mod-add-div high places in
      let room = column_fits places (low / places) places (high / places) less (omega arith) in
      omega (arith, first, second, room, below, same)
  | inr over ↦ elim (cases_eq (low / places) (high / places)) [
    | inl equal ↦
        let first = mod-add-div low places in let second = mod-add-div high places in
        let product = ap (λ (n : ℕ). places * n) equal in
        omega (arith, first, second, product, above, same)
    | inr apart ↦
        let first = mod-add-div low places in let second = mod-add-div high places in
        let room = column_fits places (high / places) places (low / places) (omega (arith, over, apart)) (omega arith) in
        omega (arith, first, second, room, above, same)
  ]
]

pub near_apart : (places number other : ℕ) → number ≢ other → (other ≤ number → number < other + places) → (number ≤ other → other < number + places)
    → false ≡ nat_eq (number % places) (other % places)
near_apart places number other apart up down = sym (ne_eqb (number % places) (other % places) (λ same. elim (cases_lt number other) [
  | inl less ↦ near places number other less (down (omega (arith, less))) same
  | inr more ↦ near places other number (omega (arith, more, apart)) (up more) (sym same)
]))
