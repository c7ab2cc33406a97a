-- What lines ask for, and which fault of a line is named: for each rule a case that it takes and one that it refuses.
use Rattle.std.specs.Prelude.{ℕ, ◌≡◌, replicate, true, false, [], ◌∷◌, codes, Some, None, Ok, Err, refl}
use Rattle.hex.proofs.OnLiterals.{hex_on_literals}
use Rattle.blk_base.specs.declared.request.Request.TheVariants.{Read, Write, Discard, Flush}
use Rattle.stream_text.specs.LineFaults.{first_of, both}
use Rattle.stream_text.specs.LineWords.{number_of, least_number, within, stream_number, address_number, count_number, run_number, extent_of, run_of, run_of_part, run_before, bytes_of_parts, block_of_bytes, block_of_word}
use Rattle.stream_text.specs.Runs.{Run}
use Rattle.stream_text.specs.LineGrammar.{write_asked, asked_of_line, stream_asked, SaysAsked}
use Rattle.stream_text.specs.StreamRequests.{discards}
use Rattle.stream_text.specs.WholeScript.{lines_with_ends, text_of, is_passed_over, is_too_long}
use Rattle.stream_text.specs.declared.refusal.LineFault.TheVariants.{Word, Number, Stream, Range, BlockLength}
use Rattle.stream_text.specs.declared.refusal.AddFault.TheVariants.{Fault, Memory}
use Rattle.stream_text.specs.declared.asked.Asked.TheVariants.{One, Discards}

pub number_zeros : number_of (codes "007") ≡ Some 7
number_zeros = refl

pub number_empty : number_of [] ≡ None
number_empty = refl

pub number_letter : number_of (codes "7x") ≡ None
number_letter = refl

pub within_least : within 1 4096 Range (Some 1) ≡ Ok 1
within_least = refl

pub within_zero : within 1 4096 Range (Some 0) ≡ Err Range
within_zero = refl

pub within_most : within 0 15 Stream (Some 15) ≡ Ok 15
within_most = refl

pub within_more : within 0 15 Stream (Some 16) ≡ Err Stream
within_more = refl

pub within_none : within 0 15 Stream None ≡ Err Number
within_none = refl

pub least_small : least_number 9 (Some 8) ≡ Some 8
least_small = refl

pub least_great : least_number 9 (Some 10) ≡ Some 9
least_great = refl

pub stream_last : stream_number (codes "15") ≡ Ok 15
stream_last = refl

pub stream_beyond : stream_number (codes "16") ≡ Err Stream
stream_beyond = refl

pub address_last : address_number (codes "4294967295") ≡ Ok 4294967295
address_last = refl

pub address_beyond : address_number (codes "4294967296") ≡ Err Range
address_beyond = refl

pub count_most : count_number (codes "65536") ≡ Ok 65536
count_most = refl

pub count_beyond : count_number (codes "65537") ≡ Err Range
count_beyond = refl

pub count_zero : count_number (codes "0") ≡ Err Range
count_zero = refl

pub length_most : run_number (codes "4096") ≡ Ok 4096
length_most = refl

pub length_beyond : run_number (codes "4097") ≡ Err Range
length_beyond = refl

pub length_zero : run_number (codes "0") ≡ Err Range
length_zero = refl

pub both_right : both {A = ℕ} {B = ℕ} (Ok 1) (Ok 2) ≡ Ok (1, 2)
both_right = refl

pub both_first : both {A = ℕ} {B = ℕ} (Ok 1) (Err Range) ≡ Err Range
both_first = refl

pub both_second : both {A = ℕ} {B = ℕ} (Err Range) (Ok 2) ≡ Err Range
both_second = refl

pub first_before : first_of Stream Number ≡ Number
first_before = refl

pub first_after : first_of Number Stream ≡ Number
first_after = refl

pub extent_last : extent_of (Ok (4294967295, 1)) ≡ Ok (4294967295, 4294967295)
extent_last = refl

pub extent_beyond : extent_of (Ok (4294967295, 2)) ≡ Err Range
extent_beyond = refl

pub extent_faulty : extent_of (Err Number) ≡ Err Number
extent_faulty = refl

pub run_right : run_of (Ok 3) (Some 255) ≡ Ok (record { count = 3; byte = 255 })
run_right = refl

pub run_faulty : run_of (Err Range) (Some 255) ≡ Err Range
run_faulty = refl

pub run_form : run_of (Err Number) None ≡ Err Word
run_form = refl

pub bytes_next : run_before (both (Ok (record { count = 2; byte = 7 })) (Ok (8 ∷ []))) ≡ Ok (7 ∷ 7 ∷ 8 ∷ [])
bytes_next = refl

pub bytes_first : run_before (both {A = Run} (Err Range) (Err Number)) ≡ Err Number
bytes_first = refl

pub block_short : block_of_bytes (Ok (7 ∷ 7 ∷ 8 ∷ [])) ≡ Err BlockLength
block_short = refl

pub block_faulty : block_of_bytes (Err Range) ≡ Err Range
block_faulty = refl

pub block_right : block_of_bytes (Ok (replicate 4096 7)) ≡ Ok (replicate 4096 7)
block_right = refl

pub parts_none : bytes_of_parts [] ≡ Ok []
parts_none = refl

pub parts_two : bytes_of_parts (codes "2*07" ∷ codes "1*fF" ∷ []) ≡ Ok (7 ∷ 7 ∷ 255 ∷ [])
unfolding hex_on_literals
parts_two = refl

pub parts_faulty : bytes_of_parts (codes "0*07" ∷ codes "x*07" ∷ []) ≡ Err Number
unfolding hex_on_literals
parts_faulty = refl

pub word_short : block_of_word (codes "2*07+1*ff") ≡ Err BlockLength
unfolding hex_on_literals
word_short = refl

pub word_open : block_of_word (codes "2*07+") ≡ Err Word
unfolding hex_on_literals
word_open = refl

pub run_part : run_of_part (codes "3*fF") ≡ Ok (record { count = 3; byte = 255 })
unfolding hex_on_literals
run_part = refl

pub run_short : run_of_part (codes "3*f") ≡ Err Word
run_short = refl

pub run_bare : run_of_part (codes "3") ≡ Err Word
run_bare = refl

pub run_twice : run_of_part (codes "3*ff*ff") ≡ Err Word
run_twice = refl

pub flush_row : asked_of_line (codes "0 flush") ≡ Ok (One 0 Flush)
flush_row = refl

pub flush_more : asked_of_line (codes "0 flush 1") ≡ Err Word
flush_more = refl

pub read_row : asked_of_line (codes "3 read 9") ≡ Ok (One 3 (Read (record { 0 = 9 })))
read_row = refl

pub read_upper : asked_of_line (codes "3 Read 9") ≡ Err Word
read_upper = refl

pub discard_row : asked_of_line (codes "1 discard 5 3") ≡ Ok (Discards 1 5 7)
discard_row = refl

pub discard_none : asked_of_line (codes "1 discard 5 0") ≡ Err Range
discard_none = refl

pub discard_upper : asked_of_line (codes "1 Discard 5 3") ≡ Err Word
discard_upper = refl

pub write_short : asked_of_line (codes "1 write 5 1*07") ≡ Err BlockLength
unfolding hex_on_literals
write_short = refl

pub write_asked_right : write_asked (Ok (1, (5, 7 ∷ []))) ≡ Ok (One 1 (Write (record { 0 = 5 }) (7 ∷ []) false))
write_asked_right = refl

pub words_one : asked_of_line (codes "0") ≡ Err Word
words_one = refl

pub words_five : asked_of_line (codes "0 read 5 5 5") ≡ Err Word
words_five = refl

pub stream_of_one : stream_asked (One 3 Flush) ≡ 3
stream_of_one = refl

pub stream_of_extent : stream_asked (Discards 3 5 6) ≡ 3
stream_of_extent = refl

pub number_first : asked_of_line (codes "16 discard x 0") ≡ Err Number
number_first = refl

pub stream_next : asked_of_line (codes "16 discard 5 0") ≡ Err Stream
stream_next = refl

pub discards_two : discards 5 2 ≡ Discard (record { 0 = 5 }) ∷ Discard (record { 0 = 6 }) ∷ []
discards_two = refl

pub lines_two : lines_with_ends (codes "a\n\nb") ≡ codes "a\n" ∷ codes "\n" ∷ codes "b" ∷ []
lines_two = refl

pub text_ended : text_of (codes "a\n") ≡ codes "a"
text_ended = refl

pub passed_comment : is_passed_over (codes "# 0 flush") ≡ true
passed_comment = refl

pub passed_none : is_passed_over (codes "0 flush") ≡ false
passed_none = refl

pub long_at_limit : is_too_long 134217727 (codes "\n") ≡ false
long_at_limit = refl

pub long_beyond : is_too_long 134217728 (codes "\n") ≡ true
long_beyond = refl

pub says_asked : SaysAsked (Ok (One 3 Flush)) (Ok (One 3 Flush))
says_asked = refl

pub says_other : SaysAsked (Ok (One 3 Flush)) (Ok (One 4 Flush)) → ⊥
says_other same = absurd cc

pub says_fault : SaysAsked (Err (Fault Word)) (Err Word)
says_fault = refl

pub says_other_fault : SaysAsked (Err (Fault Word)) (Err Number) → ⊥
says_other_fault same = absurd cc

pub says_no_fault : SaysAsked (Err (Fault Word)) (Ok (One 3 Flush)) → ⊥
says_no_fault same = absurd cc

pub says_memory : SaysAsked (Err Memory) (Err Word)
says_memory = tt
