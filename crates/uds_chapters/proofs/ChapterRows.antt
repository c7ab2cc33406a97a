-- For each clause on names, records and chapters, a case that it accepts, and one that breaks it alone.
use Rattle.std.specs.Prelude.{ℕ, zero, suc, ◌≡◌, ◌≢◌, ◌<◌, ◌≤◌, Bool, false, List, [], ◌∷◌, length, Some, None, refl}
use Rattle.std.proofs.Common.{ap, arith, get_or, length-take, length-drop, Less, Equal}
use Rattle.std.specs.List.Sorted.{IsPartitionPoint}
use Rattle.std.proofs.lemmas.List.Elements.{All-cons}
use Rattle.std.proofs.lemmas.List.Kept.{AllPairs-cons}
use Rattle.blk_base.specs.Forms.{pbn as at}
use Rattle.blk_base.proofs.Example.{number_of_block}
use Rattle.uds_chapters.specs.declared.entry.Record.{Record}
use Rattle.uds_chapters.specs.declared.added.Added.TheVariants.{New, Replaced, Full}
use Rattle.uds_chapters.specs.declared.found.PageFind.TheVariants.{At, Before, After, Absent, NotAPage}
use Rattle.uds_chapters.specs.Names.{name_cmp, IsBelow, AreRising, IsName, AreSorted}
use Rattle.uds_chapters.specs.Chapters.{location_of, with_record, Adds, records_in}
use Rattle.uds_chapters.specs.Finds.{IsUnder, IsOver, Says, location_in}
use Rattle.uds_chapters.proofs.RecordLaws.{any_at}
use Rattle.uds_chapters.proofs.PageRows.{unequal}

-- a record of a name of one byte
abbrev one : ℕ → ℕ → Record
one byte block = record { name = byte ∷ []; at = at block }

-- two records that rise
abbrev two : List Record
two = one 3 87 ∷ one 7 88 ∷ []

-- the order of names: the first byte that differs decides, and then the length
lower_first : name_cmp (1 ∷ 9 ∷ []) (2 ∷ 0 ∷ []) ≡ Less
lower_first = refl

lower_last : name_cmp (1 ∷ 8 ∷ []) (1 ∷ 9 ∷ []) ≡ Less
lower_last = refl

not_by_the_last_byte_first : name_cmp (2 ∷ 0 ∷ []) (1 ∷ 9 ∷ []) ≢ Less
not_by_the_last_byte_first = λ below. cc

same_name : name_cmp (1 ∷ 9 ∷ []) (1 ∷ 9 ∷ []) ≡ Equal
same_name = refl

shorter : name_cmp (1 ∷ []) (1 ∷ 0 ∷ []) ≡ Less
shorter = refl

-- records that rise
two_rise : AreRising two
two_rise = AllPairs-cons IsBelow (one 3 87) (one 7 88 ∷ []) (All-cons (IsBelow (one 3 87)) (one 7 88) [] refl (λ k d inside. absurd (omega arith))) (
    AllPairs-cons IsBelow (one 7 88) [] (λ k d inside. absurd (omega arith)) (λ i j d before inside. absurd (omega arith)))

equal_names_dont_rise : ¬ AreRising (one 3 87 ∷ one 3 88 ∷ [])
equal_names_dont_rise = λ rising. let below = rising 0 1 (one 0 0) (omega arith) (omega arith) in cc

falling_names_dont_rise : ¬ AreRising (one 7 88 ∷ one 3 87 ∷ [])
falling_names_dont_rise = λ rising. let below = rising 0 1 (one 0 0) (omega arith) (omega arith) in cc

not_only_neighbours_of_the_first : ¬ AreRising (one 3 87 ∷ one 9 88 ∷ one 7 89 ∷ [])
not_only_neighbours_of_the_first = λ rising. let below = rising 1 2 (one 0 0) (omega arith) (omega arith) in cc

-- the location of a name
first_location : location_of (3 ∷ []) two ≡ Some (at 87)
first_location = refl

second_location : location_of (7 ∷ []) two ≡ Some (at 88)
second_location = refl

no_location_of_another : location_of (5 ∷ []) two ≡ None
no_location_of_another = refl

not_by_a_prefix : location_of (3 ∷ 0 ∷ []) two ≡ None
not_by_a_prefix = refl

-- a record that is added stands in its place
in_front : with_record (one 1 90) two ≡ one 1 90 ∷ one 3 87 ∷ one 7 88 ∷ []
in_front = refl

between : with_record (one 5 90) two ≡ one 3 87 ∷ one 5 90 ∷ one 7 88 ∷ []
between = refl

behind : with_record (one 9 90) two ≡ one 3 87 ∷ one 7 88 ∷ one 9 90 ∷ []
behind = refl

in_place_of_an_older_one : with_record (one 3 90) two ≡ one 3 90 ∷ one 7 88 ∷ []
in_place_of_an_older_one = refl

-- adding a record of a new name
new : Adds two (one 3 87 ∷ one 5 90 ∷ one 7 88 ∷ []) (one 5 90) New
new = (refl, omega arith, refl)

not_new_where_it_is : ¬ Adds two (one 3 90 ∷ one 7 88 ∷ []) (one 3 90) New
not_new_where_it_is = λ adds. let none = adds.0 in cc

last_new : (old : List Record) → location_of (5 ∷ []) old ≡ None → length old ≡ 679 → Adds old (with_record (one 5 90) old) (one 5 90) New
last_new old none count = (none, omega arith, refl)

no_new_past_the_last : (old : List Record) → length old ≡ 680 → ¬ Adds old (with_record (one 5 90) old) (one 5 90) New
no_new_past_the_last old count = λ adds. let few = adds.1 in omega arith

new_is_there : ¬ Adds two two (one 5 90) New
new_is_there = λ adds. unequal 2 3 (ap length adds.2) (omega arith)

-- adding one of a name that is there
replaced : Adds two (one 3 90 ∷ one 7 88 ∷ []) (one 3 90) Replaced
replaced = (refl, refl)

not_replaced_where_it_isn't : ¬ Adds two (one 3 87 ∷ one 5 90 ∷ one 7 88 ∷ []) (one 5 90) Replaced
not_replaced_where_it_isn't = λ adds. let there = adds.0 in cc

older_not_kept : ¬ Adds two two (one 3 90) Replaced
older_not_kept = λ adds. unequal 87 90 (ap (λ records. number_of_block (location_of (3 ∷ []) records)) adds.1) (omega arith)

-- adding one to a full chapter
full : (old : List Record) → location_of (5 ∷ []) old ≡ None → length old ≡ 680 → Adds old old (one 5 90) Full
full old none count = (none, count, refl)

not_full_with_one_less : (old : List Record) → length old ≡ 679 → ¬ Adds old old (one 5 90) Full
not_full_with_one_less old count = λ adds. let all = adds.1 in omega arith

not_full_for_a_name_that_is_there : (old : List Record) → location_of (5 ∷ []) old ≡ Some (at 87) → ¬ Adds old old (one 5 90) Full
not_full_for_a_name_that_is_there old there = λ adds. let none = adds.0 in cc

full_changes_nothing : (old new : List Record) → length new ≡ 681 → ¬ Adds old new (one 5 90) Full
full_changes_nothing old new more = λ adds. let count = adds.1 in let same = ap length adds.2 in omega arith

-- the records of the pages
first_page_first : records_in 0 two ≡ two
first_page_first = refl

second_page_empty : records_in 1 two ≡ []
second_page_empty = refl

first_page_full : (records : List Record) → length records ≡ 171 → length (records_in 0 records) ≡ 170
first_page_full records count = simp (length-take, length-drop) (omega arith)

second_page_begun : (records : List Record) → length records ≡ 171 → length (records_in 1 records) ≡ 1
second_page_begun records count = simp (length-take, length-drop) (omega arith)

-- what records say of a name
says_at : Says two (7 ∷ []) (At (at 88))
says_at = refl

not_at_another : ¬ Says two (7 ∷ []) (At (at 87))
not_at_another = λ says. unequal 88 87 (ap number_of_block says) (omega arith)

says_before : Says two (1 ∷ []) Before
says_before = All-cons (IsOver (1 ∷ [])) (one 3 87) (one 7 88 ∷ []) refl (All-cons (IsOver (1 ∷ [])) (one 7 88) [] refl (λ k d inside. absurd (omega arith)))

before_where_there_is_none : Says [] (1 ∷ []) Before
before_where_there_is_none = λ k d inside. absurd (omega arith)

not_before_the_first : ¬ Says two (3 ∷ []) Before
not_before_the_first = λ says. let over = says 0 (one 0 0) (omega arith) in cc

says_after : Says two (9 ∷ []) After
says_after = (omega arith, All-cons (IsUnder (9 ∷ [])) (one 3 87) (one 7 88 ∷ []) refl (All-cons (IsUnder (9 ∷ [])) (one 7 88) [] refl (λ k d inside. absurd (omega arith))))

not_after_nothing : ¬ Says [] (9 ∷ []) After
not_after_nothing = λ says. let some : 0 < 0 = says.0 in omega arith

not_after_the_last : ¬ Says two (7 ∷ []) After
not_after_the_last = λ says. let under = says.1 1 (one 0 0) (omega arith) in cc

says_absent : Says two (5 ∷ []) Absent
says_absent = (refl, any_at (IsUnder (5 ∷ [])) two 0 (one 0 0) (omega arith) refl, any_at (IsOver (5 ∷ [])) two 1 (one 0 0) (omega arith) refl)

not_absent_where_it_is : ¬ Says two (3 ∷ []) Absent
not_absent_where_it_is = λ says. let none = says.0 in cc

no_record_says_that_it_is_no_page : ¬ Says two (5 ∷ []) NotAPage
no_record_says_that_it_is_no_page = λ says. says

location_of_an_answer : location_in (At (at 88)) ≡ Some (at 88)
location_of_an_answer = refl

no_location_of_an_answer : location_in Absent ≡ None
no_location_of_an_answer = refl

-- where a record would stand: behind those whose names are below, and in front of those whose names are above
gap : IsPartitionPoint (IsUnder (5 ∷ [])) (IsOver (5 ∷ [])) two 1
gap = (first, last)
  where
    first : (k : ℕ) (d : Record) → 0 ≤ k → k < 1 → IsUnder (5 ∷ []) (get_or two k d)
    first zero d from below = refl
    first (suc k) d from below = absurd (omega arith)

    last : (k : ℕ) (d : Record) → 1 ≤ k → k < 2 → IsOver (5 ∷ []) (get_or two k d)
    last zero d from within = absurd (omega arith)
    last (suc zero) d from within = refl
    last (suc (suc k)) d from within = absurd (omega arith)

not_the_gap_in_front : ¬ IsPartitionPoint (IsUnder (5 ∷ [])) (IsOver (5 ∷ [])) two 0
not_the_gap_in_front = λ is. let over = is.1 0 (one 0 0) (omega arith) (omega arith) in cc

not_the_gap_behind : ¬ IsPartitionPoint (IsUnder (5 ∷ [])) (IsOver (5 ∷ [])) two 2
not_the_gap_behind = λ is. let under = is.0 1 (one 0 0) (omega arith) (omega arith) in cc

-- a name, and records with names that rise

module _ (bytes : List ℕ) where
  a_name_too_short : length bytes ≡ 15 → ¬ IsName bytes
  a_name_too_short short = λ is. let size = is.size in omega (arith, size, short)

a_byte_too_great : (bytes : List ℕ) → ¬ IsName (256 ∷ bytes)
a_byte_too_great bytes = λ is. let small = is.bytes 0 in omega (arith, small)

no_records_are_sorted : AreSorted []
no_records_are_sorted = record { rising = λ i j d before inside. absurd (omega (arith, inside)); named = λ k d inside. absurd (omega (arith, inside)) }

names_that_fall : ¬ AreSorted (one 2 85 ∷ one 1 86 ∷ [])
names_that_fall = λ is. let less = is.rising 0 1 (one 0 0) (omega arith) (omega arith) in absurd cc

names_of_one_byte : ¬ AreSorted (one 2 85 ∷ [])
names_of_one_byte = λ is. let size = (is.named 0 (one 0 0) (omega arith)).size in omega (arith, size)
