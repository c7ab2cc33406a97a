-- For each clause on the bytes of a page, a case that it accepts, and one that breaks it alone.
use Rattle.std.specs.Prelude.{ℕ, ◌≡◌, ◌≢◌, ◌++◌, List, [], ◌∷◌, length, replicate, refl}
use Rattle.std.proofs.Common.{sym, ◌∙◌, ap, arith}
use Rattle.std.proofs.lemmas.List.Elements.{All-cons}
use Rattle.byte_fields.specs.Fields.{le, number_at}
use Rattle.uds_chapters.specs.declared.entry.Record.{Record}
use Rattle.uds_chapters.specs.declared.found.PageFind.TheVariants.{Before, NotAPage}
use Rattle.uds_chapters.specs.Names.{AreRising}
use Rattle.uds_chapters.specs.Pages.{record_bytes, head_bytes, page_bytes, HoldsRecord, IsPage}
use Rattle.uds_chapters.specs.Finds.{Finds}
use Rattle.uds_chapters.proofs.PageLaws.{count_of, page_read}

pub unequal : (a b : ℕ) → a ≡ b → a ≢ b → ⊥
unequal a b same apart = apart same

-- a record with a name of 16 bytes, at block 258
abbrev some : Record
some = record { name = 1 ∷ 2 ∷ 3 ∷ 4 ∷ 5 ∷ 6 ∷ 7 ∷ 8 ∷ 9 ∷ 10 ∷ 11 ∷ 12 ∷ 13 ∷ 14 ∷ 15 ∷ 16 ∷ []; at = record { 0 = 258 } }

-- its bytes: the name, and the block with its low byte first
bytes_of_some : record_bytes some ≡ 1 ∷ 2 ∷ 3 ∷ 4 ∷ 5 ∷ 6 ∷ 7 ∷ 8 ∷ 9 ∷ 10 ∷ 11 ∷ 12 ∷ 13 ∷ 14 ∷ 15 ∷ 16 ∷ 2 ∷ 1 ∷ 0 ∷ 0 ∷ 0 ∷ 0 ∷ 0 ∷ 0 ∷ []
unfolding record_bytes le
bytes_of_some = refl

-- a head
bytes_of_a_head : head_bytes 513 5 3 170 ≡ 1 ∷ 2 ∷ 0 ∷ 0 ∷ 0 ∷ 0 ∷ 0 ∷ 0 ∷ 5 ∷ 0 ∷ 0 ∷ 0 ∷ 3 ∷ 170 ∷ 0 ∷ 0 ∷ []
unfolding head_bytes le
bytes_of_a_head = refl

-- a page with this record
bytes_of_a_page : page_bytes 513 5 3 (some ∷ []) ≡ head_bytes 513 5 3 1 ++ (record_bytes some ++ []) ++ replicate 4056 0
unfolding page_bytes
bytes_of_a_page = refl

-- what a record's bytes can hold
some_is_held : HoldsRecord some
some_is_held = (refl, omega arith)

greatest_block : HoldsRecord (record some { at = record { 0 = 4294967295 } })
greatest_block = (refl, omega arith)

block_too_great : ¬ HoldsRecord (record some { at = record { 0 = 4294967296 } })
block_too_great = λ held. let small = held.1 in omega arith

name_too_short : ¬ HoldsRecord (record some { name = 1 ∷ [] })
name_too_short = λ held. let size : 1 ≡ 16 = held.0 in omega arith

-- a page without records
pub none_rise : AreRising []
none_rise = λ i j d before inside. absurd (omega arith)

empty : IsPage 513 5 3 (page_bytes 513 5 3 []) []
empty = record { place = omega arith; spelled = refl; few = omega arith; held = λ k d inside. absurd (omega arith); rising = none_rise }

-- and with one
with_one : IsPage 513 5 3 (page_bytes 513 5 3 (some ∷ [])) (some ∷ [])
with_one = record {
  place = omega arith;
  spelled = refl;
  few = omega arith;
  held = All-cons HoldsRecord some [] some_is_held (λ k d inside. absurd (omega arith));
  rising = λ i j d before inside. absurd (omega arith);
}

no_fifth_page : (block : List ℕ) (records : List Record) → ¬ IsPage 513 5 4 block records
no_fifth_page block records = λ is. let place = is.place in omega arith

not_another_page : (block : List ℕ) (records records' : List Record) → IsPage 513 5 3 block records → ¬ IsPage 513 5 2 block records'
not_another_page block records records' is = λ is'.
    unequal 3 2 (sym (page_read 513 5 3 records is.place) ∙ ap (number_at 1 12) (sym is.spelled ∙ is'.spelled) ∙ page_read 513 5 2 records' is'.place) (omega arith)

too_many : (block : List ℕ) (records : List Record) → length records ≡ 171 → ¬ IsPage 513 5 3 block records
too_many block records many = λ is. let few = is.few in omega arith

not_held : (block : List ℕ) → ¬ IsPage 513 5 3 block (record some { at = record { 0 = 4294967296 } } ∷ [])
not_held block = λ is. let small = (is.held 0 some (omega arith)).1 in omega arith

not_rising : (block : List ℕ) → ¬ IsPage 513 5 3 block (some ∷ some ∷ [])
not_rising block = λ is. let below = is.rising 0 1 some (omega arith) (omega arith) in cc

-- what a page without records says, and what a block says that has a byte for the number of records which is too great
says_of_the_empty_page : Finds 513 5 3 (page_bytes 513 5 3 []) (9 ∷ []) Before
says_of_the_empty_page = ([], empty, λ k d inside. absurd (omega arith))

not_a_page : (block : List ℕ) → number_at 1 13 block ≡ 255 → Finds 513 5 3 block (9 ∷ []) NotAPage
not_a_page block filled = λ records is. let count = count_of 513 5 3 block records is in let few = is.few in omega (arith, count, few, filled)

empty_is_a_page : ¬ Finds 513 5 3 (page_bytes 513 5 3 []) (9 ∷ []) NotAPage
empty_is_a_page = λ none. none [] empty
