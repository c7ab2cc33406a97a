-- For each clause on advice and answers, a case that it accepts, and one that breaks it alone.
use Rattle.std.specs.Prelude.{ℕ, ◌≡◌, ◌+◌, ◌*◌, true, false, List, [], ◌∷◌, length, None, Some, refl}
use Rattle.std.proofs.Common.{sym, ◌∙◌, ap, arith, inl, inr}
use Rattle.blk_base.specs.Forms.{pbn as at}
use Rattle.blk_base.proofs.Example.{number_of_block}
use Rattle.uds_chapters.specs.declared.entry.Record.{Record}
use Rattle.uds_chapters.specs.Pages.{IsPage}
use Rattle.uds_chapters.proofs.PageRows.{unequal}
use Rattle.index_advice.specs.declared.advice.Advice.TheVariants.{Looked, Learnt, Due, Finished}
use Rattle.index_advice.specs.declared.look.Look.TheVariants.{Known, Nothing, Read}
use Rattle.index_advice.specs.Books.{Book, DuePage, finished, block_of}
use Rattle.index_advice.specs.Advices.{Leads, LeadTo, HasDuePage}
use Rattle.index_advice.specs.Answers.{Looks, Reads}
use Rattle.index_advice.specs.Kept.{next_of, rest_of, Tabled, known, kept_with}

-- a book with one chapter of four pages, which are to be written from the second on, and a record in the open chapter
abbrev one : Record
one = record { name = 2 ∷ []; at = at 87 }

abbrev page_of : ℕ → DuePage
page_of page = record { number = 5; page = page }

abbrev some : Book
some = record {
  nonce = 7;
  first = 69;
  places = 2;
  kept = record { number = 5; records = [] } ∷ [];
  unclosed = one ∷ [];
  due = page_of 1 ∷ page_of 2 ∷ [];
}

-- looks
looked : Leads some (Looked (2 ∷ []) (Some (at 87)) false) some
looked = (refl, refl)

looked_in_vain : Leads some (Looked (2 ∷ []) None true) some
looked_in_vain = (refl, refl)

another_place_found : ¬ Leads some (Looked (2 ∷ []) (Some (at 86)) false) some
another_place_found = λ leads. unequal 86 87 (ap number_of_block leads.0) (omega arith)

nothing_found_though_known : ¬ Leads some (Looked (2 ∷ []) None false) some
nothing_found_though_known = λ leads. let found = leads.0 in cc

found_though_failed : ¬ Leads some (Looked (2 ∷ []) (Some (at 87)) true) some
found_though_failed = λ leads. let found = leads.0 in cc

a_look_changes_nothing : ¬ Leads some (Looked (2 ∷ []) (Some (at 87)) false) (record some { unclosed = [] })
a_look_changes_nothing = λ leads. unequal 0 1 (ap (λ (b : Book). length b.unclosed) leads.1) (omega arith)

-- a record that is learnt
learnt_now : Leads some (Learnt (2 ∷ []) (at 90)) (record some { unclosed = record { name = 2 ∷ []; at = at 90 } ∷ [] })
learnt_now = refl

not_learnt : ¬ Leads some (Learnt (3 ∷ []) (at 90)) some
not_learnt = λ leads. unequal 1 2 (ap (λ (b : Book). length b.unclosed) leads) (omega arith)

-- a page that is given out
given : Leads some (Due (at 74)) (record some { due = page_of 2 ∷ [] })
given = record { page = page_of 1; first = refl; place = refl; same = refl }

another_block : ¬ Leads some (Due (at 75)) (record some { due = page_of 2 ∷ [] })
another_block = λ takes. unequal 75 (69 + 4 * 1 + 1) (takes.place ∙ ap (block_of some) (ap first_page (sym takes.first))) (omega arith)
  where
    first_page : List DuePage → DuePage
    first_page [] = page_of 1
    first_page (page ∷ pages) = page

still_due : ¬ Leads some (Due (at 74)) some
still_due = λ takes. unequal 2 3 (ap length takes.first) (omega arith)

more_than_given : ¬ Leads some (Due (at 74)) (record some { due = page_of 2 ∷ []; unclosed = [] })
more_than_given = λ takes. unequal 0 1 (ap (λ (b : Book). length b.unclosed) takes.same) (omega arith)

-- a chapter that is finished
finished_now : Leads some Finished (finished some)
finished_now = refl

not_finished : ¬ Leads some Finished some
not_finished = λ leads. unequal 1 0 (ap (λ (b : Book). length b.unclosed) leads) (omega arith)

-- lists, the newest first
in_order : LeadTo some (Due (at 75) ∷ Due (at 74) ∷ []) (record some { due = [] })
in_order = (record some { due = page_of 2 ∷ [] }, (some, refl, given), record { page = page_of 2; first = refl; place = refl; same = refl })

nothing_leads_nowhere_else : ¬ LeadTo some [] (record some { due = [] })
nothing_leads_nowhere_else = λ leads. unequal 0 2 (ap (λ (b : Book). length b.due) leads) (omega arith)

-- the page that is to be written next
due_page : (block : List ℕ) → IsPage 7 5 1 block [] → HasDuePage some block
due_page block is = record { page = page_of 1; pages = page_of 2 ∷ []; next = refl; chapter = record { number = 5; records = [] }; kept = refl; filled = is }

no_page : (block : List ℕ) → ¬ HasDuePage (record some { due = [] }) block
no_page block = λ has. let next = has.next in cc

no_chapter : (block : List ℕ) → ¬ HasDuePage (record some { kept = [] }) block
no_chapter block = λ has. let there = has.kept in cc

-- answers
answered : Looks (2 ∷ []) some false false (Known (at 87))
answered = (refl, refl, refl)

answered_wrong : ¬ Looks (2 ∷ []) some false false (Known (at 86))
answered_wrong = λ looks. unequal 87 86 (ap number_of_block looks.0) (omega arith)

answered_though_unread : ¬ Looks (2 ∷ []) some true false (Known (at 87))
answered_though_unread = λ looks. let read = looks.1 in cc

no_answer_after_a_failed_read : Looks (2 ∷ []) some true false Nothing
no_answer_after_a_failed_read = (inr refl, refl)

no_answer_though_known : ¬ Looks (2 ∷ []) some false false Nothing
no_answer_though_known = λ looks. elim looks.0 [ inl none ↦ cc | inr failed ↦ cc ]

the_next_look_begins_anew : ¬ Looks (2 ∷ []) some true true Nothing
the_next_look_begins_anew = λ looks. let after = looks.1 in cc

asks_for_the_last_block : Looks (2 ∷ []) some false false (Read (at 76))
asks_for_the_last_block = (omega arith, omega arith, refl)

asks_past_the_index : ¬ Looks (2 ∷ []) some false false (Read (at 77))
asks_past_the_index = λ looks. let inside = looks.1 in omega arith

asks_before_the_index : ¬ Looks (2 ∷ []) some false false (Read (at 68))
asks_before_the_index = λ looks. let inside = looks.0 in omega arith

a_question_keeps_what_failed : ¬ Looks (2 ∷ []) some true false (Read (at 76))
a_question_keeps_what_failed = λ looks. let after = looks.2 in cc

a_page_that_came : Reads false false false
a_page_that_came = inl refl

a_page_that_failed : Reads true false true
a_page_that_failed = inr (refl, refl)

no_page_that_came_fails : ¬ Reads false false true
no_page_that_came_fails = λ reads. elim reads [ inl same ↦ cc | inr failed ↦ let is = failed.0 in cc ]

-- the advisors without a device
next_answer : next_of (Known (at 87) ∷ Nothing ∷ []) ≡ Known (at 87)
next_answer = refl

behind_the_last_answer : next_of [] ≡ Nothing
behind_the_last_answer = refl

other_answers : rest_of (Known (at 87) ∷ Nothing ∷ []) ≡ Nothing ∷ []
other_answers = refl

known_place : known (Some (at 87)) ≡ Known (at 87)
known_place = refl

unknown_place : known None ≡ Nothing
unknown_place = refl

abbrev table : Tabled
table = record { room = 1; records = one ∷ [] }

kept_again : kept_with (record { name = 2 ∷ []; at = at 90 }) table ≡ record { room = 1; records = record { name = 2 ∷ []; at = at 90 } ∷ [] }
kept_again = refl

forgotten_without_room : kept_with (record { name = 3 ∷ []; at = at 90 }) table ≡ table
forgotten_without_room = refl

kept_with_room : kept_with (record { name = 3 ∷ []; at = at 90 }) (record table { room = 2 }) ≡ record { room = 2; records = one ∷ record { name = 3 ∷ []; at = at 90 } ∷ [] }
kept_with_room = refl
