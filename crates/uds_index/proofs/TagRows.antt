-- For each clause on the list of tags, a case that it accepts, and one that breaks it.
use Rattle.std.specs.Prelude.{ℕ, zero, suc, ◌≡◌, ◌<◌, ◌≤◌, slice_index_or, List, [], ◌∷◌, length, true, refl}
use Rattle.std.proofs.Common.{ap, arith}
use Rattle.byte_fields.specs.Fields.{number_at}
use Rattle.uds_chapters.specs.Chapters.{Numbered}
use Rattle.index_advice.specs.Books.{Book}
use Rattle.uds_index.specs.declared.tags.Tagged.{Tagged}
use Rattle.uds_index.specs.Tags.{AreListed, IsListed, AreTagsOf, ArePartedAt, tagged_with, with_tag, with_tags}
use Rattle.uds_index.proofs.ListLaws.{listed_with, none_listed}

abbrev tagged : ℕ → ℕ → Tagged
tagged number tag = record { tag = tag; number = number }

-- a chapter of one name with this tag
abbrev chapter : ℕ → ℕ → Numbered
chapter number tag = record { number = number; records = record { name = tag ∷ 0 ∷ 0 ∷ 0 ∷ []; at = record { 0 = 85 } } ∷ [] }

-- tags in their places
in_front : with_tag (tagged 6 2) (tagged 5 1 ∷ tagged 5 2 ∷ tagged 5 3 ∷ []) ≡ tagged 5 1 ∷ tagged 6 2 ∷ tagged 5 2 ∷ tagged 5 3 ∷ []
in_front = refl

all_in_front : with_tags 6 (1 ∷ 3 ∷ []) (tagged 5 1 ∷ tagged 5 2 ∷ []) ≡ tagged 6 1 ∷ tagged 5 1 ∷ tagged 5 2 ∷ tagged 6 3 ∷ []
all_in_front = refl

those_with_it : tagged_with 2 (tagged 5 1 ∷ tagged 6 2 ∷ tagged 5 2 ∷ []) ≡ tagged 6 2 ∷ tagged 5 2 ∷ []
those_with_it = refl

-- the tags of a chapter
its_tag : AreTagsOf (chapter 5 1) (1 ∷ [])
unfolding number_at
its_tag = record { rising = λ k inside. absurd (omega (arith, inside)); few = omega arith; same = λ tag. refl }

tags_that_fall : (one : Numbered) → ¬ AreTagsOf one (2 ∷ 1 ∷ [])
tags_that_fall one = λ is. let less = is.rising 0 (omega arith) in omega (arith, less)

a_tag_twice : (one : Numbered) → ¬ AreTagsOf one (1 ∷ 1 ∷ [])
a_tag_twice one = λ is. let less = is.rising 0 (omega arith) in omega (arith, less)

too_many_tags : (one : Numbered) (own : List ℕ) → length own ≡ 681 → ¬ AreTagsOf one own
too_many_tags one own many = λ is. let few = is.few in omega (arith, few, many)

a_tag_left_out : ¬ AreTagsOf (chapter 5 1) []
unfolding number_at
a_tag_left_out = λ is. let same = is.same 1 in absurd cc

a_tag_of_no_name : ¬ AreTagsOf (chapter 5 1) (1 ∷ 2 ∷ [])
unfolding number_at
a_tag_of_no_name = λ is. let same = is.same 2 in absurd cc

-- the list of chapters
one_chapter : AreListed (chapter 5 1 ∷ []) (tagged 5 1 ∷ [])
one_chapter = listed_with (chapter 5 1) (1 ∷ []) [] [] its_tag none_listed

two_chapters : AreListed (chapter 5 1 ∷ chapter 5 1 ∷ []) (tagged 5 1 ∷ tagged 5 1 ∷ [])
two_chapters = listed_with (chapter 5 1) (1 ∷ []) (chapter 5 1 ∷ []) (tagged 5 1 ∷ []) its_tag one_chapter

a_list_that_falls : (kept : List Numbered) → ¬ AreListed kept (tagged 5 2 ∷ tagged 5 1 ∷ [])
a_list_that_falls kept = λ is. let rises = is.rising 0 1 (tagged 0 0) (omega arith) (omega arith) in omega (arith, rises)

a_chapter_left_out : ¬ AreListed (chapter 5 1 ∷ []) []
unfolding number_at
a_chapter_left_out = λ is. let same = ap length (is.numbers 1) in omega (arith, same)

the_older_first : ¬ AreListed (chapter 6 1 ∷ chapter 5 1 ∷ []) (tagged 5 1 ∷ tagged 6 1 ∷ [])
unfolding number_at
the_older_first = λ is. let same = is.numbers 1 in absurd cc

too_many_of_none : ¬ AreListed [] (tagged 5 1 ∷ [])
too_many_of_none = λ is. let few = is.few (λ n. true) in omega (arith, few)

-- the room
abbrev book : Book
book = record { nonce = 7; first = 69; places = 1; kept = []; unclosed = []; due = [] }

room_for_all : IsListed book (record { room = 2720; tags = [] })
room_for_all = record { listed = none_listed; room = omega arith }

too_little_room : ¬ IsListed book (record { room = 2719; tags = [] })
too_little_room = λ is. let room = is.room in omega (arith, room)

not_its_chapters : ¬ IsListed book (record { room = 2720; tags = tagged 5 1 ∷ [] })
not_its_chapters = λ is. too_many_of_none is.listed

-- where tags are parted
parted : ArePartedAt 2 (tagged 5 1 ∷ tagged 5 2 ∷ []) 1
parted = record { inside = omega arith; below = below; behind = behind }
  where
    below : (k : ℕ) (d : Tagged) → k < 1 → (slice_index_or (tagged 5 1 ∷ []) k d).tag < 2
    below zero d inside = omega arith
    below (suc k) d inside = absurd (omega (arith, inside))

    behind : (k : ℕ) (d : Tagged) → k < 1 → 2 ≤ (slice_index_or (tagged 5 2 ∷ []) k d).tag
    behind zero d inside = omega arith
    behind (suc k) d inside = absurd (omega (arith, inside))

parted_too_early : ¬ ArePartedAt 2 (tagged 5 1 ∷ tagged 5 2 ∷ []) 0
parted_too_early = λ is. let more = is.behind 0 (tagged 0 0) (omega arith) in omega (arith, more)

parted_too_late : ¬ ArePartedAt 2 (tagged 5 1 ∷ tagged 5 2 ∷ []) 2
parted_too_late = λ is. let less = is.below 1 (tagged 0 0) (omega arith) in omega (arith, less)

parted_past_the_end : ¬ ArePartedAt 2 (tagged 5 1 ∷ []) 2
parted_past_the_end = λ is. let inside = is.inside in omega (arith, inside)
