-- What records say of a name, and what adding one does to that.
use Rattle.std.specs.Prelude.{ℕ, zero, suc, ◌≡◌, ◌≢◌, ◌<◌, ◌≤◌, ◌+◌, ◌*◌, List, [], ◌∷◌, ◌++◌, length, take, drop, All, Any, HoldsAt, Option, None, Some, if◌then◌else◌, slice_index, slice_set, refl}
use Rattle.std.proofs.Common.{sym, ◌∙◌, ap, subst, arith, get_or, length-drop, Ordering, Less, Equal, Greater}
use Rattle.std.specs.List.{insert, refill}
use Rattle.std.specs.List.Sorted.{IsPartitionPoint}
use Rattle.std.specs.Ordering.{match_ordering}
use Rattle.std.specs.Str.{bytes_eq}
use Rattle.std.proofs.lemmas.List.{take-append-drop, drop-drop, drop_all, append-nil, take_at, length-set, get_or_default, length-take, get_or-take, get_or-drop}
use Rattle.std.proofs.lemmas.List.Elements.{All-head, All-tail, All-cons}
use Rattle.std.proofs.lemmas.List.Kept.{AllPairs-cons}
use Rattle.blk_base.specs.declared.place.Pbn.{Pbn}
use Rattle.uds_chapters.specs.declared.entry.Record.{Record}
use Rattle.uds_chapters.specs.Names.{name_cmp, IsBelow, AreRising, IsName, AreSorted}
use Rattle.uds_chapters.specs.Chapters.{location_of, with_record, records_in}
use Rattle.uds_chapters.specs.Finds.{IsUnder, IsOver}
use Rattle.uds_chapters.proofs.NameLaws.{name_total, equal_names, own_name, below_apart, above_apart, turned, same_test, other_test, rising-head, rising-tail}

-- one step of looking a name up
pub here : (name : List ℕ) (one : Record) (records : List Record) → one.name ≡ name → location_of name (one ∷ records) ≡ Some one.at
here name one records same = rw (same_test one.name name same) refl

pub further : (name : List ℕ) (one : Record) (records : List Record) → one.name ≢ name → location_of name (one ∷ records) ≡ location_of name records
further name one records apart = rw (other_test one.name name apart) refl

-- names that are all others say nothing of it
pub no_location : (name : List ℕ) (records : List Record) → All (λ one. one.name ≢ name) records → location_of name records ≡ None
no_location name [] apart = refl
no_location name (one ∷ records) apart =
    further name one records (All-head (λ (e : Record). e.name ≢ name) one records apart)
    ∙ no_location name records (All-tail (λ (e : Record). e.name ≢ name) one records apart)

-- a step of adding one, by how the names compare
own_step : (new one : Record) (records : List Record) (o : Ordering) → name_cmp one.name new.name ≡ o
    → location_of new.name (with_record new records) ≡ Some new.at
    → location_of new.name (match_ordering o (one ∷ with_record new records) (new ∷ records) (new ∷ one ∷ records)) ≡ Some new.at
own_step new one records Less below more = further new.name one (with_record new records) (below_apart one.name new.name below) ∙ more
own_step new one records Equal same more = here new.name new records refl
own_step new one records Greater above more = here new.name new (one ∷ records) refl

pub own_location : (new : Record) (records : List Record) → location_of new.name (with_record new records) ≡ Some new.at
own_location new [] = here new.name new [] refl
own_location new (one ∷ records) = own_step new one records (name_cmp one.name new.name) refl (own_location new records)

others_step : (new : Record) (name : List ℕ) (one : Record) (records : List Record) (o : Ordering) → name ≢ new.name → name_cmp one.name new.name ≡ o
    → location_of name (with_record new records) ≡ location_of name records
    → location_of name (match_ordering o (one ∷ with_record new records) (new ∷ records) (new ∷ one ∷ records)) ≡ location_of name (one ∷ records)
others_step new name one records Less apart below more = ap (λ (rest : Option Pbn). if bytes_eq one.name name then Some one.at else rest) more
others_step new name one records Equal apart same more =
    let names = equal_names one.name new.name same in
    further name new records (λ is. apart (sym is)) ∙ sym (further name one records (λ is. apart (sym is ∙ names)))
others_step new name one records Greater apart above more = further name new (one ∷ records) (λ is. apart (sym is))

pub other_location : (new : Record) (name : List ℕ) (records : List Record) → name ≢ new.name → location_of name (with_record new records) ≡ location_of name records
other_location new name [] apart = further name new [] (λ is. apart (sym is))
other_location new name (one ∷ records) apart =
    others_step new name one records (name_cmp one.name new.name) apart refl (other_location new name records apart)

-- names go on rising

all_step : (P : Record → Type 0) (new one : Record) (records : List Record) (o : Ordering) → P new → P one → All P records → All P (with_record new records)
    → All P (match_ordering o (one ∷ with_record new records) (new ∷ records) (new ∷ one ∷ records))
all_step P new one records Less fits first rest more = All-cons P one (with_record new records) first more
all_step P new one records Equal fits first rest more = All-cons P new records fits rest
all_step P new one records Greater fits first rest more = All-cons P new (one ∷ records) fits (All-cons P one records first rest)

pub All-with_record : (P : Record → Type 0) (new : Record) (records : List Record) → P new → All P records → All P (with_record new records)
All-with_record P new [] fits all = All-cons P new [] fits all
All-with_record P new (one ∷ records) fits all =
    let rest = All-tail P one records all in
    all_step P new one records (name_cmp one.name new.name) fits (All-head P one records all) rest (All-with_record P new records fits rest)

below_all : (new one : Record) (records : List Record) → IsBelow new one → All (IsBelow one) records → All (IsBelow new) records
below_all new one records first rest = λ k d inside. name_total.trans new.name one.name (get_or records k d).name first (rest k d inside)

same_below : (new one : Record) (records : List Record) → one.name ≡ new.name → All (IsBelow one) records → All (IsBelow new) records
same_below new one records same rest = λ k d inside. ap (λ (n : List ℕ). name_cmp n (get_or records k d).name) (sym same) ∙ rest k d inside

rising_step : (new one : Record) (records : List Record) (o : Ordering) → name_cmp one.name new.name ≡ o → AreRising (one ∷ records) → AreRising (with_record new records)
    → AreRising (match_ordering o (one ∷ with_record new records) (new ∷ records) (new ∷ one ∷ records))
rising_step new one records Less below rising more =
    AllPairs-cons IsBelow one (with_record new records) (All-with_record (IsBelow one) new records below (rising-head one records rising)) more
rising_step new one records Equal same rising more =
    AllPairs-cons IsBelow new records (same_below new one records (equal_names one.name new.name same) (rising-head one records rising)) (rising-tail one records rising)
rising_step new one records Greater above rising more =
    let first = turned one.name new.name above in
    AllPairs-cons IsBelow new (one ∷ records) (All-cons (IsBelow new) one records first (below_all new one records first (rising-head one records rising))) rising

pub rising-with_record : (new : Record) (records : List Record) → AreRising records → AreRising (with_record new records)
rising-with_record new [] rising = λ i j d before inside. absurd (omega arith)
rising-with_record new (one ∷ records) rising =
    rising_step new one records (name_cmp one.name new.name) refl rising (rising-with_record new records (rising-tail one records rising))

pub sorted-with_record : (new : Record) (records : List Record) → IsName new.name → AreSorted records → AreSorted (with_record new records)
sorted-with_record new records name sorted = record {
  rising = rising-with_record new records sorted.rising;
  named = All-with_record (λ (one : Record). IsName one.name) new records name sorted.named;
}

-- what is read of a name says that it is one
pub named : (name bytes : List ℕ) → bytes ≡ name → length bytes ≡ 16 → ((k : ℕ) → slice_index bytes k < 256) → IsName name
named name bytes same size below = subst IsName same (record { size = size; bytes = below })

-- where the record of a name stands, and where it would

gap-tail : (name : List ℕ) (one : Record) (records : List Record) (place : ℕ) → IsPartitionPoint (IsUnder name) (IsOver name) (one ∷ records) (suc place)
    → IsPartitionPoint (IsUnder name) (IsOver name) records place
gap-tail name one records place gap = (
  (λ k d from below. gap.0 (suc k) d (omega arith) (omega arith)),
  (λ k d from within. gap.1 (suc k) d (omega arith) (omega arith)),
)

below_place : (name : List ℕ) (one : Record) (records : List Record) (place : ℕ) → AreRising (one ∷ records) → suc place < length (one ∷ records)
    → HoldsAt (λ e. e.name ≡ name) (one ∷ records) (suc place) → name_cmp one.name name ≡ Less
below_place name one records place rising inside at = ap (λ (n : List ℕ). name_cmp one.name n) (sym (at one)) ∙ rising 0 (suc place) one (omega arith) inside

pub with_record-gap : (new : Record) (records : List Record) (place : ℕ) → place ≤ length records
    → IsPartitionPoint (IsUnder new.name) (IsOver new.name) records place → insert records place new ≡ with_record new records
with_record-gap new [] zero inside gap = refl
with_record-gap new [] (suc place) inside gap = absurd (omega (arith, inside))
with_record-gap new (one ∷ records) zero inside gap =
    let above = gap.1 0 one (omega arith) (omega arith) in
    rw above refl
with_record-gap new (one ∷ records) (suc place) inside gap =
    let below = gap.0 0 one (omega arith) (omega arith) in
    rw below (ap (λ rest. one ∷ rest) (with_record-gap new records place (omega (arith, inside)) (gap-tail new.name one records place gap)))

pub with_record-place : (new : Record) (records : List Record) (place : ℕ) → AreRising records → place < length records
    → HoldsAt (λ e. e.name ≡ new.name) records place → slice_set records place new ≡ with_record new records
with_record-place new [] place rising inside at = absurd (omega (arith, inside))
with_record-place new (one ∷ records) zero rising inside at =
    let same = own_name one.name new.name (at one) in
    rw same refl
with_record-place new (one ∷ records) (suc place) rising inside at =
    let below = below_place new.name one records place rising inside at in
    rw below (ap (λ rest. one ∷ rest) (with_record-place new records place (rising-tail one records rising) (omega (arith, inside)) at))

pub location-place : (name : List ℕ) (records : List Record) (place : ℕ) (d : Record) → AreRising records → place < length records
    → HoldsAt (λ e. e.name ≡ name) records place → location_of name records ≡ Some (get_or records place d).at
location-place name [] place d rising inside at = absurd (omega (arith, inside))
location-place name (one ∷ records) zero d rising inside at = here name one records (at one)
location-place name (one ∷ records) (suc place) d rising inside at =
    further name one records (below_apart one.name name (below_place name one records place rising inside at))
    ∙ location-place name records place d (rising-tail one records rising) (omega (arith, inside)) at

pub location-gap : (name : List ℕ) (records : List Record) (place : ℕ) → IsPartitionPoint (IsUnder name) (IsOver name) records place → location_of name records ≡ None
location-gap name [] place gap = refl
location-gap name (one ∷ records) zero gap =
    no_location name (one ∷ records) (λ k d inside. above_apart _ name (gap.1 k d (omega arith) inside))
location-gap name (one ∷ records) (suc place) gap =
    further name one records (below_apart one.name name (gap.0 0 one (omega arith) (omega arith)))
    ∙ location-gap name records place (gap-tail name one records place gap)

-- the pages of a chapter

in_front : (page : ℕ) (records rest : List Record) → drop (170 * suc page) records ≡ rest → drop (170 * page) records ≡ records_in page records ++ rest
in_front page records rest behind =
    let place : 170 * page + 170 ≡ 170 * suc page = omega arith in
    sym (take-append-drop 170 (drop (170 * page) records))
    ∙ ap (λ b. records_in page records ++ b) (drop-drop 170 (170 * page) records ∙ ap (λ (n : ℕ). drop n records) place ∙ behind)

pub all_pages : (records : List Record) → length records ≤ 680 → records ≡ records_in 0 records ++ (records_in 1 records ++ (records_in 2 records ++ records_in 3 records))
all_pages records few =
    in_front 0 records _ (in_front 1 records _ (in_front 2 records _ (in_front 3 records [] (drop_all 680 records few) ∙ nothing_behind)))
  where
    nothing_behind : records_in 3 records ++ [] ≡ records_in 3 records
    nothing_behind = append-nil (records_in 3 records)

-- what a write into the slice of the records leaves
pub refilled : (items slice : List Record) (place : ℕ) (new : Record) → slice ≡ items
    → refill (length items) items (slice_set slice place new) ≡ slice_set items place new
refilled items slice place new same =
    let size : length (slice_set items place new) ≡ length items = length-set items place new in
    ap (λ (s : List Record). refill (length items) items (slice_set s place new)) same
    ∙ ap (λ (rest : List Record). take (length items) (slice_set items place new ++ rest)) (drop_all (length (slice_set items place new)) items (omega (arith, size)))
    ∙ take_at (slice_set items place new) [] (length items) size

-- two records as they were read
pub below_read : (records : List Record) (i j : ℕ) (a b : Record) → AreRising records → i < j → j < length records
    → a ≡ get_or records i a → b ≡ get_or records j b → IsBelow a b
below_read records i j a b rising before inside first second =
    let left : get_or records i b ≡ a = get_or_default records i b a (omega arith) ∙ sym first in
    ap (λ (r : Record). name_cmp r.name b.name) (sym left) ∙ ap (λ (r : Record). name_cmp (get_or records i b).name r.name) second ∙ rising i j b before inside

pub any_at : (P : Record → Type 0) (records : List Record) (k : ℕ) (d : Record) → k < length records → P (get_or records k d) → Any P records
any_at P records k d inside holds = (k, get_or records k d, inside, get_or_default records k (get_or records k d) d inside, holds)

-- the records of a page rise as those of the chapter do
pub rising_in : (page : ℕ) (records : List Record) → AreRising records → AreRising (records_in page records)
rising_in page records rising = λ i j d before inside.
    let size = length-take 170 (drop (170 * page) records) in
    let behind = length-drop (170 * page) records in
    let here : (k : ℕ) → k < 170 → get_or (records_in page records) k d ≡ get_or records (170 * page + k) d
    = λ k lt. get_or-take 170 (drop (170 * page) records) k d lt ∙ get_or-drop (170 * page) records k d in
    ap (λ (r : Record). name_cmp r.name (get_or (records_in page records) j d).name) (here i (omega (arith, size, inside)))
    ∙ ap (λ (r : Record). name_cmp (get_or records (170 * page + i) d).name r.name) (here j (omega (arith, size, inside)))
    ∙ rising (170 * page + i) (170 * page + j) d (omega arith) (omega (arith, size, behind, inside))
