-- What whole scripts ask for: for each rule of lines one behind the other a case that it takes and one that it refuses.
use Rattle.std.specs.Prelude.{ℕ, ◌≡◌, ◌+◌, nat_lt, zero, suc, true, false, List, [], ◌∷◌, length, replicate, codes, Ok, Err, refl}
use Rattle.std.proofs.Common.{◌∙◌, ap, arith}
use Rattle.std.proofs.lemmas.Bool.Decides.{nat_tests}
use Rattle.std.proofs.lemmas.List.{length-replicate}
use Rattle.blk_base.specs.declared.request.Request.TheVariants.{Read, Discard, Flush}
use Rattle.vdo_model.specs.Scripts.{Script}
use Rattle.stream_text.proofs.StreamLaws.{counted-few, counted-many}
use Rattle.stream_text.specs.StreamRequests.{no_requests, with_requests, count_of, counted, requests_of, with_asked}
use Rattle.stream_text.specs.WholeScript.{text_of, is_passed_over, after_text, is_too_long, after_line, go_on, script_from, whole_script}
use Rattle.stream_text.specs.declared.asked.Asked.TheVariants.{One, Discards}
use Rattle.stream_text.specs.declared.refusal.LineFault.TheVariants.{TooLong, Word, Stream, TooMany}

-- behind the stream's own requests
pub with_own : with_requests ((Flush ∷ []) ∷ [] ∷ []) 0 (Flush ∷ []) ≡ (Flush ∷ Flush ∷ []) ∷ [] ∷ []
with_own = refl

pub with_other : with_requests ((Flush ∷ []) ∷ [] ∷ []) 1 (Flush ∷ []) ≡ (Flush ∷ []) ∷ (Flush ∷ []) ∷ []
with_other = refl

pub count_of_all : count_of ((Flush ∷ []) ∷ [] ∷ (Flush ∷ Flush ∷ []) ∷ []) ≡ 3
count_of_all = refl

pub count_of_none : count_of no_requests ≡ 0
count_of_none = refl

-- one stream of so many flushes
abbrev pub flushes : ℕ → Script
flushes n = with_requests ([] ∷ []) 0 (replicate n Flush)

pub counted_at_limit : counted (flushes 65536) ≡ Ok (flushes 65536)
counted_at_limit = counted-few ([] ∷ []) 0 (replicate 65536 Flush) (omega arith) (omega (arith, length-replicate 65536 Flush))

pub counted_beyond : counted (flushes 65537) ≡ Err TooMany
counted_beyond = counted-many ([] ∷ []) 0 (replicate 65537 Flush) (omega arith) (omega (arith, length-replicate 65537 Flush))

pub requests_of_one : requests_of (One 3 Flush) ≡ Flush ∷ []
requests_of_one = refl

pub requests_of_extent : requests_of (Discards 3 5 6) ≡ Discard (record { 0 = 5 }) ∷ Discard (record { 0 = 6 }) ∷ []
requests_of_extent = refl

pub with_asked_right : with_asked ([] ∷ [] ∷ []) (Ok (One 1 Flush)) ≡ Ok ([] ∷ (Flush ∷ []) ∷ [])
with_asked_right = refl

pub with_asked_faulty : with_asked ([] ∷ [] ∷ []) (Err Stream) ≡ Err Stream
with_asked_faulty = refl

pub text_whole : text_of (codes "ab") ≡ codes "ab"
text_whole = refl

pub passed_empty : is_passed_over [] ≡ true
passed_empty = refl

pub after_comment : after_text no_requests (codes "#0 flush") ≡ Ok no_requests
after_comment = refl

pub after_request : after_text ([] ∷ []) (codes "0 flush") ≡ Ok ((Flush ∷ []) ∷ [])
after_request = refl

pub after_faulty : after_text no_requests (codes " #") ≡ Err Word
after_faulty = refl

-- a comment of so many bytes
comment_text : (n : ℕ) → text_of (replicate n 35) ≡ replicate n 35
comment_text zero = refl
comment_text (suc n) = ap (λ (bytes : List ℕ). 35 ∷ bytes) (comment_text n)

comment_length : (n : ℕ) → length (text_of (replicate n 35)) ≡ n
comment_length n = ap (λ (bytes : List ℕ). length bytes) (comment_text n) ∙ length-replicate {A = ℕ} n 35

pub line_at_limit : is_too_long 0 (replicate 32768 35) ≡ false
line_at_limit =
    let text = comment_length 32768 in
    let all = length-replicate {A = ℕ} 32768 35 in
    let line : nat_lt 32768 (length (text_of (replicate 32768 35))) ≡ false = grind (arith, nat_tests) in
    let script : nat_lt 134217728 (0 + length {A = ℕ} (replicate 32768 35)) ≡ false = grind (arith, nat_tests) in
    rw (line, script) refl

pub line_beyond : is_too_long 0 (replicate 32769 35) ≡ true
line_beyond =
    let text = comment_length 32769 in
    let line : nat_lt 32768 (length (text_of (replicate 32769 35))) ≡ true = grind (arith, nat_tests) in
    rw line refl

pub after_line_right : after_line 134217720 ([] ∷ []) (codes "0 flush\n") ≡ Ok ((Flush ∷ []) ∷ [])
after_line_right = refl

-- a line with another fault is too long first
pub after_line_long : after_line 134217721 ([] ∷ []) (codes "0 erase\n") ≡ Err TooLong
after_line_long = refl

pub goes_on : go_on 7 (Ok no_requests) (λ (script : Script). Ok script) ≡ Ok no_requests
goes_on = refl

pub stops_there : go_on 7 (Err Word) (λ (script : Script). Ok script) ≡ Err (record { line = 7; fault = Word })
stops_there = refl

-- the bytes of each line count, with its newline
pub script_at_limit : script_from 1 134217719 ([] ∷ []) (codes "#\n" ∷ codes "0 flush" ∷ []) ≡ Ok ((Flush ∷ []) ∷ [])
script_at_limit = refl

pub script_beyond : script_from 1 134217720 ([] ∷ []) (codes "#\n" ∷ codes "0 flush" ∷ []) ≡ Err (record { line = 2; fault = TooLong })
script_beyond = refl

pub script_of_two : whole_script (codes "0 flush\n\n0 read 5") ≡ Ok ((Flush ∷ Read (record { 0 = 5 }) ∷ []) ∷ replicate 15 [])
script_of_two = refl

pub first_fault : whole_script (codes "0 flush\n\n16 flush\nx\n") ≡ Err (record { line = 3; fault = Stream })
first_fault = refl
