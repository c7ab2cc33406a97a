-- The book that the index blocks give, block by block.
use Rattle.std.specs.Prelude.{ℕ, suc, ◌≡◌, ◌≢◌, ◌<◌, ◌≤◌, ◌+◌, ◌*◌, ◌-◌, ◌/◌, ◌%◌, ◌||◌, Bool, true, false, List, [], ◌∷◌, ◌++◌, length, All, AllPairs, Option, None, Some, IfSome, IfNone, option_map, nat_eq, cond, slice_index_or, refl}
use Rattle.std.specs.Option.{option_or}
use Rattle.std.proofs.Common.{sym, ◌∙◌, ap, subst, arith, inl, inr, length-append}
use Rattle.std.proofs.lemmas.Bool.{false≢true, eqb-true, eq-eqb, ne_eqb}
use Rattle.std.proofs.lemmas.Nat.{mod_below}
use Rattle.std.proofs.lemmas.List.{append-nil}
use Rattle.std.proofs.lemmas.List.Elements.{All-head, All-tail, All-cons, All-append, filter-append}
use Rattle.std.proofs.lemmas.List.Folds.{list_any-append, list_any_none}
use Rattle.std.proofs.Math.Bool.{or-true}
use Rattle.blk_base.specs.declared.place.Pbn.{Pbn}
use Rattle.blk_base.specs.declared.geometry.Geometry.{Geometry}
use Rattle.blk_base.specs.Regions.{first_index_of}
use Rattle.disk_model.specs.Seen.{Seen}
use Rattle.disk_model.specs.Trust.{Trust}
use Rattle.disk_model.specs.Since.{IsUntouched}
use Rattle.disk_model.proofs.SinceLaws.{untouched_yet, untouched_on}
use Rattle.byte_fields.specs.Fields.{number_at}
use Rattle.uds_chapters.specs.declared.entry.Record.{Record}
use Rattle.uds_chapters.specs.Chapters.{Numbered, location_of}
use Rattle.uds_chapters.proofs.PageLaws.{number_read}
use Rattle.index_advice.specs.Books.{Book, DuePage}
use Rattle.index_advice.specs.Orders.{IsNewer, IsChapter, IsOfKept}
use Rattle.uds_index.specs.Rooms.{count_at, place_of_chapter}
use Rattle.uds_index.specs.Places.{IsKept}
use Rattle.uds_index.specs.Loads.{Loaded, Holds, ArePages, pages_with, loaded_location, has_page, has_chapter, IsLoaded, HasChapter, IsLoadedBook, ReadOne, ReadEach}
use Rattle.uds_index.specs.declared.loader.LoadedPage.{LoadedPage}
use Rattle.uds_index.specs.Held.{loaded_page, IsPageRead, records_of, with_chapter, IsJoined, KeepsPage, IsSmall, IsLoading}
use Rattle.uds_index.proofs.RoomLaws.{few_in_all, one_at_most}
use Rattle.uds_index.proofs.AddLaws.{or_none, or_assoc}
use Rattle.uds_index.proofs.KeepLaws.{all_with, newest_with, count_with, has_with, has_new, none_there, small_records}

-- what is found on pages

paged-append : (name : List ℕ) (xs ys : List Loaded) → loaded_location name (xs ++ ys) ≡ option_or (loaded_location name xs) (loaded_location name ys)
paged-append name [] ys = refl
paged-append name (page ∷ xs) ys =
    ap (λ (o : Option Pbn). option_or (location_of name page.records) o) (paged-append name xs ys)
    ∙ or_assoc (location_of name page.records) (loaded_location name xs) (loaded_location name ys)

own_page : (number : ℕ) (pages : List Loaded) (page : Loaded) → page.number ≡ number → pages_with number (pages ++ page ∷ []) ≡ pages_with number pages ++ page ∷ []
own_page number pages page same =
    filter-append (λ (p : Loaded). nat_eq p.number number) pages (page ∷ [])
    ∙ ap (λ (b : Bool). pages_with number pages ++ cond b (page ∷ []) []) (eq-eqb page.number number same)

other_page : (number : ℕ) (pages : List Loaded) (page : Loaded) → page.number ≢ number → pages_with number (pages ++ page ∷ []) ≡ pages_with number pages
other_page number pages page apart =
    filter-append (λ (p : Loaded). nat_eq p.number number) pages (page ∷ [])
    ∙ ap (λ (b : Bool). pages_with number pages ++ cond b (page ∷ []) []) (ne_eqb page.number number apart)
    ∙ append-nil (pages_with number pages)

no_pages : (number : ℕ) (pages : List Loaded) → has_page number pages ≡ false → pages_with number pages ≡ []
no_pages number [] none = refl
no_pages number (page ∷ pages) none = by (nat_eq page.number number) none (no_pages number pages)
  where
    by : (b : Bool) → (b || has_page number pages) ≡ false → (has_page number pages ≡ false → pages_with number pages ≡ [])
        → cond b (page ∷ pages_with number pages) (pages_with number pages) ≡ []
    by true none rest = absurd (false≢true (sym none))
    by false none rest = rest none

-- what the chapters have is what the pages have

earlier_there : (pages : List Loaded) (kept : List Numbered) (number : ℕ) (name : List ℕ) → All (IsLoaded pages) kept → has_chapter number kept ≡ true
    → location_of name (records_of number kept) ≡ loaded_location name (pages_with number pages)
earlier_there pages [] number name all has = absurd (false≢true has)
earlier_there pages (one ∷ kept) number name all has =
    by (nat_eq one.number number) refl has (earlier_there pages kept number name (All-tail (IsLoaded pages) one kept all))
  where
    by : (b : Bool) → nat_eq one.number number ≡ b → (b || has_chapter number kept) ≡ true
        → (has_chapter number kept ≡ true → location_of name (records_of number kept) ≡ loaded_location name (pages_with number pages))
        → location_of name (cond b one.records (records_of number kept)) ≡ loaded_location name (pages_with number pages)
    by true same has rest =
        (All-head (IsLoaded pages) one kept all).same name ∙ ap (λ (n : ℕ). loaded_location name (pages_with n pages)) (eqb-true one.number number same)
    by false other has rest = rest has

unpaged : (pages : List Loaded) (kept : List Numbered) (number : ℕ) → All (HasChapter kept) pages → has_chapter number kept ≡ false → has_page number pages ≡ false
unpaged pages kept number all none = list_any_none (λ (page : Loaded). nat_eq page.number number) pages (λ k d inside.
    ne_eqb (slice_index_or pages k d).number number (λ same.
    false≢true (sym none ∙ ap (λ (n : ℕ). has_chapter n kept) (sym same) ∙ all k d inside)))

earlier : (pages : List Loaded) (kept : List Numbered) (number : ℕ) (name : List ℕ) → All (IsLoaded pages) kept → All (HasChapter kept) pages
    → location_of name (records_of number kept) ≡ loaded_location name (pages_with number pages)
earlier pages kept number name loaded all = by (has_chapter number kept) refl
  where
    by : (b : Bool) → has_chapter number kept ≡ b → location_of name (records_of number kept) ≡ loaded_location name (pages_with number pages)
    by true has = earlier_there pages kept number name loaded has
    by false none =
        ap (location_of name) (none_there number kept none)
        ∙ sym (ap (loaded_location name) (no_pages number pages (unpaged pages kept number all none)))

-- a page more

loaded_before : (pages : List Loaded) (page : Loaded) (one : Numbered) → one.number ≢ page.number → IsLoaded pages one → IsLoaded (pages ++ page ∷ []) one
loaded_before pages page one apart was = record {
  some = list_any-append (λ (p : Loaded). nat_eq p.number one.number) pages (page ∷ [])
      ∙ ap (λ (b : Bool). b || has_page one.number (page ∷ [])) was.some;
  sorted = was.sorted;
  same = λ name. was.same name ∙ ap (loaded_location name) (sym (other_page one.number pages page (λ same. apart (sym same))));
}

loaded_joined : (pages : List Loaded) (page : Loaded) (kept : List Numbered) (one : Numbered) → All (IsLoaded pages) kept → All (HasChapter kept) pages
    → IsJoined page.number (records_of page.number kept) page.records one → IsLoaded (pages ++ page ∷ []) one
loaded_joined pages page kept one loaded all joined = record {
  some = list_any-append (λ (p : Loaded). nat_eq p.number one.number) pages (page ∷ [])
      ∙ ap (λ (b : Bool). has_page one.number pages || (b || false)) (eq-eqb page.number one.number (sym joined.number_is))
      ∙ or-true (has_page one.number pages);
  sorted = joined.sorted;
  same = λ name. joined.found name
      ∙ ap (λ (o : Option Pbn). option_or o (location_of name page.records)) (earlier pages kept page.number name loaded all)
      ∙ ap (λ (n : ℕ). option_or (loaded_location name (pages_with n pages)) (location_of name page.records)) (sym joined.number_is)
      ∙ ap (λ (o : Option Pbn). option_or (loaded_location name (pages_with one.number pages)) o) (sym (or_none (location_of name page.records)))
      ∙ sym (paged-append name (pages_with one.number pages) (page ∷ []))
      ∙ ap (loaded_location name) (sym (own_page one.number pages page (sym joined.number_is)));
}

-- a read more

are_pages_on : (nonce places block : ℕ) (reads : List (Option (List ℕ))) (read : Option (List ℕ)) (pages more : List Loaded)
    → ArePages nonce places block reads pages → ArePages nonce places (block + length reads) (read ∷ []) more
    → ArePages nonce places block (reads ++ read ∷ []) (pages ++ more)
are_pages_on nonce places block [] read pages more none last =
    subst (λ (ps : List Loaded). ArePages nonce places block (read ∷ []) (ps ++ more)) (sym none)
    (subst (λ (n : ℕ). ArePages nonce places n (read ∷ []) more) (nothing block) last)
  where
    nothing : (n : ℕ) → n + 0 ≡ n
    nothing n = omega arith
are_pages_on nonce places block (None ∷ reads) read pages more are last =
    are_pages_on nonce places (suc block) reads read pages more are
    (subst (λ (n : ℕ). ArePages nonce places n (read ∷ []) more) (further block (length reads)) last)
  where
    further : (b n : ℕ) → b + suc n ≡ suc b + n
    further b n = omega arith
are_pages_on nonce places block (Some bytes ∷ reads) read pages more are last = elim are [
  | inl none ↦ inl (none.0, are_pages_on nonce places (suc block) reads read pages more none.1 (next last))
  | inr some ↦ inr (
    some.0,
    some.1 ++ more,
    ap (λ (ps : List Loaded). ps ++ more) some.2,
    some.3,
    are_pages_on nonce places (suc block) reads read some.1 more some.4 (next last),
  )
]
  where
    further : (b n : ℕ) → b + suc n ≡ suc b + n
    further b n = omega arith

    next : ArePages nonce places (block + length (Some bytes ∷ reads)) (read ∷ []) more → ArePages nonce places (suc block + length reads) (read ∷ []) more
    next last = subst (λ (n : ℕ). ArePages nonce places n (read ∷ []) more) (further block (length reads)) last

reads_on : (trust : Trust) (at : ℕ) (before middle now : Seen) (reads : List (Option (List ℕ))) (read : Option (List ℕ))
    → ReadEach trust at before middle reads → ReadOne trust (at + length reads) middle now read
    → ReadEach trust at before now (reads ++ read ∷ [])
reads_on trust at before middle now [] read none last =
    (now, subst (λ (s : Seen). ReadOne trust at s now read) none (subst (λ (n : ℕ). ReadOne trust n middle now read) (nothing at) last), refl)
  where
    nothing : (n : ℕ) → n + 0 ≡ n
    nothing n = omega arith
reads_on trust at before middle now (first ∷ reads) read each last = (
  each.0,
  each.1,
  reads_on trust (suc at) each.0 middle now reads read each.2
      (subst (λ (n : ℕ). ReadOne trust n middle now read) (further at (length reads)) last),
)
  where
    further : (b n : ℕ) → b + suc n ≡ suc b + n
    further b n = omega arith

-- what a read block holds
pub held_by : (g : Geometry) (block : ℕ) (read : Option (List ℕ)) (page : Loaded) → IsPageRead g block read (Some page)
    → (bytes : List ℕ) × (read ≡ Some bytes) × Holds g.nonce (g.index / 4) block bytes page
held_by g block None page is = absurd cc
held_by g block (Some bytes) page is = (bytes, refl, is)

last_none : (g : Geometry) (block : ℕ) (read : Option (List ℕ)) → IsPageRead g block read None → ArePages g.nonce (g.index / 4) block (read ∷ []) []
last_none g block None is = refl
last_none g block (Some bytes) is = inl (is, refl)

last_page : (g : Geometry) (block : ℕ) (read : Option (List ℕ)) (page : Loaded) → IsPageRead g block read (Some page)
    → ArePages g.nonce (g.index / 4) block (read ∷ []) (page ∷ [])
last_page g block None page is = absurd cc
last_page g block (Some bytes) page is = inr (page, [], refl, is, refl)

book_none : (g : Geometry) (reads : List (Option (List ℕ))) (read : Option (List ℕ)) (book : Book) → IsLoadedBook g reads book
    → IsPageRead g (length reads) read None → IsLoadedBook g (reads ++ read ∷ []) book
book_none g reads read book was is = record {
  nonce = was.nonce;
  first = was.first;
  places = was.places;
  pages = was.pages;
  decoded = subst (λ (ps : List Loaded). ArePages g.nonce (g.index / 4) 0 (reads ++ read ∷ []) ps) (append-nil was.pages)
      (are_pages_on g.nonce (g.index / 4) 0 reads read was.pages [] was.decoded
      (subst (λ (n : ℕ). ArePages g.nonce (g.index / 4) n (read ∷ []) []) (zero_more (length reads)) (last_none g (length reads) read is)));
  newest_first = was.newest_first;
  loaded = was.loaded;
  all = was.all;
  unclosed = was.unclosed;
  due = was.due;
}
  where
    zero_more : (n : ℕ) → n ≡ 0 + n
    zero_more n = omega arith

book_page : (g : Geometry) (reads : List (Option (List ℕ))) (read : Option (List ℕ)) (page : Loaded) (book new : Book) → IsLoadedBook g reads book
    → IsPageRead g (length reads) read (Some page) → KeepsPage page.number page.records book.kept new.kept → new ≡ record book { kept = new.kept }
    → IsLoadedBook g (reads ++ read ∷ []) new
book_page g reads read page book new was is keeps same = record {
  nonce = ap (λ (b : Book). b.nonce) same ∙ was.nonce;
  first = ap (λ (b : Book). b.first) same ∙ was.first;
  places = ap (λ (b : Book). b.places) same ∙ was.places;
  pages = was.pages ++ page ∷ [];
  decoded = are_pages_on g.nonce (g.index / 4) 0 reads read was.pages (page ∷ []) was.decoded
      (subst (λ (n : ℕ). ArePages g.nonce (g.index / 4) n (read ∷ []) (page ∷ [])) (zero_more (length reads)) (last_page g (length reads) read page is));
  newest_first = subst (λ (ks : List Numbered). AllPairs IsNewer ks) (sym keeps.kept) (newest_with keeps.chapter book.kept was.newest_first);
  loaded = subst (λ (ks : List Numbered). All (IsLoaded (was.pages ++ page ∷ [])) ks) (sym keeps.kept)
      (all_with (IsLoaded (was.pages ++ page ∷ [])) (IsLoaded was.pages) keeps.chapter book.kept was.newest_first
      (loaded_joined was.pages page book.kept keeps.chapter was.loaded was.all keeps.joined)
      (λ one apart. loaded_before was.pages page one (λ e. apart (e ∙ sym keeps.joined.number_is))) was.loaded);
  all = subst (λ (ks : List Numbered). All (HasChapter ks) (was.pages ++ page ∷ [])) (sym keeps.kept)
      (All-append (HasChapter (with_chapter keeps.chapter book.kept)) was.pages (page ∷ [])
      (λ k d inside. has_with keeps.chapter (slice_index_or was.pages k d).number book.kept (was.all k d inside))
      (All-cons (HasChapter (with_chapter keeps.chapter book.kept)) page []
      (ap (λ (n : ℕ). has_chapter n (with_chapter keeps.chapter book.kept)) (sym keeps.joined.number_is) ∙ has_new keeps.chapter book.kept)
      (λ k d inside. absurd (omega (arith, inside)))));
  unclosed = ap (λ (b : Book). b.unclosed) same ∙ was.unclosed;
  due = ap (λ (b : Book). b.due) same ∙ was.due;
}
  where
    zero_more : (n : ℕ) → n ≡ 0 + n
    zero_more n = omega arith

none_more : (b : Bool) → b ≡ false → cond b 1 0 ≤ 0
none_more true is = absurd (false≢true (sym is))
none_more false is = omega arith

-- a book that is kept with a page more
pub kept_page : (book new : Book) (number : ℕ) (page : List Record) → IsKept book → book.due ≡ [] → count_at (place_of_chapter book.places) (number % book.places) book.kept < 4
    → KeepsPage number page book.kept new.kept → new ≡ record book { kept = new.kept } → IsKept (record book { kept = new.kept })
kept_page book new number page was written room keeps same = record {
  some = was.some;
  blocks = was.blocks;
  order = record {
    newest_first = subst (λ (ks : List Numbered). AllPairs IsNewer ks) (sym keeps.kept) (newest_with keeps.chapter book.kept was.order.newest_first);
    chapters = subst (λ (ks : List Numbered). All IsChapter ks) (sym keeps.kept)
        (all_with IsChapter IsChapter keeps.chapter book.kept was.order.newest_first keeps.joined.sorted (λ one apart is. is) was.order.chapters);
    unclosed = was.order.unclosed;
    due = subst (λ (ps : List DuePage). All (IsOfKept new.kept) ps) (sym written) (λ k d inside. absurd (omega (arith, inside)));
  };
  chapters = λ place. few place (nat_eq (keeps.chapter.number % book.places) place) refl;
  pages = was.pages;
}
  where
    few : (place : ℕ) (b : Bool) → nat_eq (keeps.chapter.number % book.places) place ≡ b → count_at (place_of_chapter book.places) place new.kept ≤ 4
    few place true same =
        let all = ap (count_at (place_of_chapter book.places) place) keeps.kept in
        let more = count_with book.places place keeps.chapter book.kept in
        let one : cond (nat_eq (keeps.chapter.number % book.places) place) 1 0 ≤ 1 = one_at_most (nat_eq (keeps.chapter.number % book.places) place) in
        let here : count_at (place_of_chapter book.places) place book.kept < 4 =
        subst (λ (p : ℕ). count_at (place_of_chapter book.places) p book.kept < 4)
        (ap (λ (n : ℕ). n % book.places) (sym keeps.joined.number_is) ∙ eqb-true (keeps.chapter.number % book.places) place same) room in
        omega (arith, all, more, one, here)
    few place false other =
        let all = ap (count_at (place_of_chapter book.places) place) keeps.kept in
        let more = count_with book.places place keeps.chapter book.kept in
        let none : cond (nat_eq (keeps.chapter.number % book.places) place) 1 0 ≤ 0 = none_more (nat_eq (keeps.chapter.number % book.places) place) other in
        let before = was.chapters place in
        omega (arith, all, more, none, before)

-- the room for it
pub page_room : (book : Book) (number : ℕ) (chapter : Numbered) → IsKept book → count_at (place_of_chapter book.places) (number % book.places) book.kept < 4
    → chapter.number ≡ number → length (with_chapter chapter book.kept) ≤ 4 * book.places
page_room book number chapter was room same =
    few_in_all (place_of_chapter book.places) book.places (with_chapter chapter book.kept) (λ one. mod_below one.number book.places was.some)
    (λ place. few place (nat_eq (chapter.number % book.places) place) refl)
  where
    few : (place : ℕ) (b : Bool) → nat_eq (chapter.number % book.places) place ≡ b → count_at (place_of_chapter book.places) place (with_chapter chapter book.kept) ≤ 4
    few place true is =
        let more = count_with book.places place chapter book.kept in
        let one : cond (nat_eq (chapter.number % book.places) place) 1 0 ≤ 1 = one_at_most (nat_eq (chapter.number % book.places) place) in
        let here : count_at (place_of_chapter book.places) place book.kept < 4 =
        subst (λ (p : ℕ). count_at (place_of_chapter book.places) p book.kept < 4)
        (ap (λ (n : ℕ). n % book.places) (sym same) ∙ eqb-true (chapter.number % book.places) place is) room in
        omega (arith, more, one, here)
    few place false other =
        let more = count_with book.places place chapter book.kept in
        let none : cond (nat_eq (chapter.number % book.places) place) 1 0 ≤ 0 = none_more (nat_eq (chapter.number % book.places) place) other in
        let before = was.chapters place in
        omega (arith, more, none, before)

-- What a block holds that was read.

pub if_none : {X : Type 0} (r : Option X) (P : Type 0) → P → IfNone r P
if_none None P holds = holds
if_none (Some x) P holds = tt

pub held_number : (nonce places block : ℕ) (bytes : List ℕ) (page : Loaded) → Holds nonce places block bytes page → number_at 4 8 bytes ≡ page.number
held_number nonce places block bytes page holds = ap (number_at 4 8) holds.decodes.spelled ∙ number_read nonce page.number (block % 4) page.records holds.number

pub page_read : (g : Geometry) (number : ℕ) (bytes : List ℕ) (r : Option LoadedPage) → IfSome r (λ page. Holds g.nonce (g.index / 4) number bytes (loaded_page page))
    → IfNone r ((page : Loaded) → Holds g.nonce (g.index / 4) number bytes page → ⊥) → IsPageRead g number (Some bytes) (option_map loaded_page r)
page_read g number bytes None some none = none
page_read g number bytes (Some page) some none = some

-- One block after the other.

pub loading_start : (g : Geometry) (trust : Trust) (seen : Seen) (first : ℕ) (book : Book)
    → book ≡ record { nonce = g.nonce; first = first; places = g.index / 4; kept = []; unclosed = []; due = [] } → first ≡ first_index_of g + 0
    → IsLoading g trust seen seen 0 book
loading_start g trust seen first book is at = subst (λ (b : Book). IsLoading g trust seen seen 0 b) (sym is) (record {
  reads = [];
  count = refl;
  each = refl;
  loaded = record {
    nonce = refl;
    first = omega (arith, at);
    places = refl;
    pages = [];
    decoded = refl;
    newest_first = λ i j d before inside. absurd (omega (arith, inside));
    loaded = λ k d inside. absurd (omega (arith, inside));
    all = λ k d inside. absurd (omega (arith, inside));
    unclosed = refl;
    due = refl;
  };
  few = λ place. omega arith;
  small = λ k d inside. absurd (omega (arith, inside));
  untouched = untouched_yet trust.tells seen;
})

one_read_more : (reads : List (Option (List ℕ))) (read : Option (List ℕ)) (n : ℕ) → length reads ≡ n → length (reads ++ read ∷ []) ≡ n + 1
one_read_more reads read n count = let both = length-append reads (read ∷ []) in omega (arith, both, count)

pub loading_none : (g : Geometry) (trust : Trust) (before middle now : Seen) (block : ℕ) (book : Book) (read : Option (List ℕ))
    → IsLoading g trust before middle block book → ReadOne trust (first_index_of g + block) middle now read
    → IsPageRead g block read None → IsUntouched trust.tells middle now → IsLoading g trust before now (block + 1) book
loading_none g trust before middle now block book read was one is untouched = record {
  reads = was.reads ++ read ∷ [];
  count = one_read_more was.reads read block was.count;
  each = reads_on trust (first_index_of g) before middle now was.reads read was.each
      (subst (λ (n : ℕ). ReadOne trust (first_index_of g + n) middle now read) (sym was.count) one);
  loaded = book_none g was.reads read book was.loaded (subst (λ (n : ℕ). IsPageRead g n read None) (sym was.count) is);
  few = λ place. let few = was.few place in omega (arith, few);
  small = λ k d inside. let small = was.small k d inside in omega (arith, small);
  untouched = untouched_on trust.tells before middle now was.untouched untouched;
}

-- the place of a page's chapter is that of its block
page_place : (g : Geometry) (trust : Trust) (before middle : Seen) (block : ℕ) (book : Book) (bytes : List ℕ) (page : Loaded)
    → IsLoading g trust before middle block book → Holds g.nonce (g.index / 4) block bytes page → page.number % book.places ≡ block / 4
page_place g trust before middle block book bytes page was holds = ap (λ (n : ℕ). page.number % n) was.loaded.places ∙ holds.place

pub few_records : (g : Geometry) (trust : Trust) (before middle : Seen) (block : ℕ) (book : Book) (bytes : List ℕ) (page : Loaded)
    → IsLoading g trust before middle block book → Holds g.nonce (g.index / 4) block bytes page
    → length (records_of page.number book.kept) + length page.records ≤ 680
few_records g trust before middle block book bytes page was holds =
    let place = page_place g trust before middle block book bytes page was holds in
    let small = small_records book.places block page.number book.kept was.small in
    let few = holds.decodes.few in
    omega (arith, place, small, few)

pub few_chapters : (g : Geometry) (trust : Trust) (before middle : Seen) (block : ℕ) (book : Book) (bytes : List ℕ) (page : Loaded)
    → IsLoading g trust before middle block book → Holds g.nonce (g.index / 4) block bytes page
    → count_at (place_of_chapter book.places) (page.number % book.places) book.kept < 4
few_chapters g trust before middle block book bytes page was holds =
    let place = page_place g trust before middle block book bytes page was holds in
    let few = was.few (page.number % book.places) in
    omega (arith, place, few)

pub loading_page : (g : Geometry) (trust : Trust) (before middle now : Seen) (block : ℕ) (book new : Book) (read : Option (List ℕ)) (page : Loaded)
    → IsLoading g trust before middle block book → ReadOne trust (first_index_of g + block) middle now read
    → IsPageRead g block read (Some page) → IsUntouched trust.tells middle now
    → KeepsPage page.number page.records book.kept new.kept → new ≡ record book { kept = new.kept } → IsLoading g trust before now (block + 1) new
loading_page g trust before middle now block book new read page was one is untouched keeps same = record {
  reads = was.reads ++ read ∷ [];
  count = one_read_more was.reads read block was.count;
  each = reads_on trust (first_index_of g) before middle now was.reads read was.each
      (subst (λ (n : ℕ). ReadOne trust (first_index_of g + n) middle now read) (sym was.count) one);
  loaded = book_page g was.reads read page book new was.loaded (subst (λ (n : ℕ). IsPageRead g n read (Some page)) (sym was.count) is) keeps same;
  few = λ place. subst (λ (b : Book). count_at (place_of_chapter b.places) place b.kept ≤ block + 1 - 4 * place) (sym same)
      (subst (λ (ks : List Numbered). count_at (place_of_chapter book.places) place ks ≤ block + 1 - 4 * place) (sym keeps.kept)
      (few place (nat_eq (keeps.chapter.number % book.places) place) refl));
  small = subst (λ (b : Book). All (IsSmall b.places (block + 1)) b.kept) (sym same)
      (subst (λ (ks : List Numbered). All (IsSmall book.places (block + 1)) ks) (sym keeps.kept)
      (all_with (IsSmall book.places (block + 1)) (IsSmall book.places block) keeps.chapter book.kept was.loaded.newest_first own
      (λ other apart small. omega (arith, small)) was.small));
  untouched = untouched_on trust.tells before middle now was.untouched untouched;
}
  where
    place_is : page.number % book.places ≡ block / 4
    place_is = let held = held_by g block read page is in page_place g trust before middle block book held.0 page was held.2

    own : IsSmall book.places (block + 1) keeps.chapter
    own = let holds = (held_by g block read page is).2 in
        let small = small_records book.places block page.number book.kept was.small in
        let few = holds.decodes.few in
        let joined = keeps.joined.few in
        let number = ap (λ (n : ℕ). n % book.places) keeps.joined.number_is in
        let place = place_is in
        omega (arith, small, few, joined, number, place)

    few : (place : ℕ) (b : Bool) → nat_eq (keeps.chapter.number % book.places) place ≡ b
        → count_at (place_of_chapter book.places) place (with_chapter keeps.chapter book.kept) ≤ block + 1 - 4 * place
    few place true here =
        let more = count_with book.places place keeps.chapter book.kept in
        let one = one_at_most (nat_eq (keeps.chapter.number % book.places) place) in
        let before = was.few place in
        let number = ap (λ (n : ℕ). n % book.places) keeps.joined.number_is in
        let same = eqb-true (keeps.chapter.number % book.places) place here in
        let at = place_is in
        omega (arith, more, one, before, number, same, at)
    few place false other =
        let more = count_with book.places place keeps.chapter book.kept in
        let none = none_more (nat_eq (keeps.chapter.number % book.places) place) other in
        let before = was.few place in
        omega (arith, more, none, before)
