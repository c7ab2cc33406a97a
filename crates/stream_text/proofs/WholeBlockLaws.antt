-- Each write that a line adds has a whole block, and what is kept while a script is read line by line.
use Rattle.std.specs.Prelude.{ℕ, ◌≡◌, ◌≢◌, ◌<◌, ◌≤◌, ◌+◌, ◌==◌, codes, bytes_eq, zero, suc, nat_le, Bool, true, false, List, [], ◌∷◌, ◌++◌, length, Result, Ok, Err, IfOk, if◌then◌else◌, refl}
use Rattle.std.specs.List.{AllByRecursion, slice_split}
use Rattle.std.proofs.Common.{sym, ◌∙◌, ap, subst, arith, inl, inr}
use Rattle.std.proofs.lemmas.Bool.Decides.{eqb_tells}
use Rattle.blk_base.specs.declared.request.Request.{Request}
use Rattle.vdo_model.specs.Scripts.{Script, IsServed}
use Rattle.stream_text.specs.LineFaults.{both}
use Rattle.stream_text.specs.LineWords.{stream_number, address_number, count_number, extent_of, bytes_of_parts, block_of_bytes}
use Rattle.stream_text.specs.LineGrammar.{stream_asked, flush_asked, read_asked, write_asked, discard_asked, asked_of_words, words_of, asked_of_line}
use Rattle.stream_text.specs.StreamRequests.{count_of, discards, requests_of, with_asked, with_requests}
use Rattle.stream_text.specs.WholeScript.{is_passed_over, after_text}
use Rattle.stream_text.specs.ReadingBytes.{goes_on_from, EachRequest, IsAdded, IsReadingBytes, IsWholeScript}
use Rattle.stream_text.specs.declared.asked.Asked.{Asked}
use Rattle.stream_text.specs.declared.asked.Asked.TheVariants.{One, Discards}
use Rattle.stream_text.specs.declared.refusal.LineFault.{LineFault}
use Rattle.stream_text.specs.declared.refusal.LineFault.TheVariants.{Word, TooMany}
use Rattle.stream_text.proofs.LineLaws.{OneLine}
use Rattle.stream_text.proofs.ScriptLaws.{next-line, served-last}

-- one of two values
if_else : {A : Type 0} (P : A → Type 0) (taken : Bool) (value other : Result A LineFault) → IfOk value P → IfOk other P → IfOk (if taken then value else other) P
if_else P true value other h k = h
if_else P false value other h k = k

both-second : {A B : Type 0} (P : B → Type 0) (one : Result A LineFault) (other : Result B LineFault) → IfOk other P → IfOk (both one other) (λ p. P p.1)
both-second P (Ok a) (Ok b) h = h
both-second P (Ok a) (Err fault) h = tt
both-second P (Err fault) (Ok b) h = tt
both-second P (Err one) (Err other) h = tt

-- what asks for one request asks for one that has a whole block where it writes
abbrev pub IsWhole : Asked → Type 0
IsWhole (One stream request) = IsServed request
IsWhole (Discards stream at last) = Unit {0}

block_whole : (bytes : Result (List ℕ) LineFault) → IfOk (block_of_bytes bytes) (λ block. length block ≡ 4096)
block_whole (Ok bytes) = elim (eqb_tells (length bytes) 4096) [ inl same ↦ rw same.0 same.1 | inr other ↦ rw other.0 tt ]
block_whole (Err fault) = tt

flush_whole : (stream : Result ℕ LineFault) → IfOk (flush_asked stream) IsWhole
flush_whole (Ok stream) = tt
flush_whole (Err fault) = tt

read_whole : (named : Result (ℕ × ℕ) LineFault) → IfOk (read_asked named) IsWhole
read_whole (Ok (stream, at)) = tt
read_whole (Err fault) = tt

write_whole : (named : Result (ℕ × (ℕ × List ℕ)) LineFault) → IfOk named (λ p. length p.1.1 ≡ 4096) → IfOk (write_asked named) IsWhole
write_whole (Ok (stream, (at, block))) whole = (whole, refl)
write_whole (Err fault) whole = tt

discard_whole : (named : Result (ℕ × (ℕ × ℕ)) LineFault) → IfOk (discard_asked named) IsWhole
discard_whole (Ok (stream, (at, last))) = tt
discard_whole (Err fault) = tt

words_whole : (words : List (List ℕ)) → IfOk (asked_of_words words) IsWhole
words_whole [] = tt
words_whole (stream ∷ []) = tt
words_whole (stream ∷ command ∷ []) = if_else IsWhole (bytes_eq command (codes "flush")) (flush_asked (stream_number stream)) (Err Word) (flush_whole (stream_number stream)) tt
words_whole (stream ∷ command ∷ address ∷ []) =
    let named = both (stream_number stream) (address_number address) in
    if_else IsWhole (bytes_eq command (codes "read")) (read_asked named) (Err Word) (read_whole named) tt
words_whole (stream ∷ command ∷ address ∷ last ∷ []) =
    let block = block_of_bytes (bytes_of_parts (slice_split (λ byte. byte == 43) last)) in
    let written = both (address_number address) block in
    let discards = discard_asked (both (stream_number stream) (extent_of (both (address_number address) (count_number last)))) in
    let whole = both-second (λ (p : ℕ × List ℕ). length p.1 ≡ 4096) (stream_number stream) written
    (both-second (λ (block : List ℕ). length block ≡ 4096) (address_number address) block (block_whole (bytes_of_parts (slice_split (λ byte. byte == 43) last)))) in
    if_else IsWhole (bytes_eq command (codes "write")) (write_asked (both (stream_number stream) written))
    (if bytes_eq command (codes "discard") then discards else Err Word) (write_whole (both (stream_number stream) written) whole)
    (if_else IsWhole (bytes_eq command (codes "discard")) discards (Err Word)
    (discard_whole (both (stream_number stream) (extent_of (both (address_number address) (count_number last))))) tt)
words_whole (stream ∷ command ∷ address ∷ last ∷ word ∷ words) = tt

-- what a line asks for
line_whole : (line : List ℕ) → IfOk (asked_of_line line) IsWhole
line_whole line = words_whole (words_of line)

discards_whole : (at count : ℕ) → AllByRecursion IsServed (discards at count)
discards_whole at zero = tt
discards_whole at (suc count) = (tt, discards_whole (at + 1) count)

-- the writes that are asked for have whole blocks
asked_whole : (asked : Result Asked LineFault) → IfOk asked IsWhole → IfOk asked (λ a. AllByRecursion IsServed (requests_of a))
asked_whole (Ok (One stream request)) whole = (whole, tt)
asked_whole (Ok (Discards stream at last)) whole = discards_whole at _
asked_whole (Err fault) whole = tt

all-append : {A : Type 0} (P : A → Type 0) (xs ys : List A) → AllByRecursion P xs → AllByRecursion P ys → AllByRecursion P (xs ++ ys)
all-append P [] ys all more = more
all-append P (x ∷ xs) ys all more = (all.0, all-append P xs ys all.1 more)

pub rows-with : (P : Request → Type 0) (script : Script) (stream : ℕ) (more : List Request) → EachRequest P script → AllByRecursion P more
    → EachRequest P (with_requests script stream more)
rows-with P [] stream more all new = tt
rows-with P (row ∷ rows) zero more all new = (all-append P row more all.0 new, all.1)
rows-with P (row ∷ rows) (suc stream) more all new = (all.0, rows-with P rows stream more all.1 new)

-- every request is so, if each is that was there, and each that a line adds
each-after : (P : Request → Type 0) (script : Script) (passed : Bool) (asked : Result Asked LineFault) → EachRequest P script
    → (passed ≡ false → IfOk asked (λ a. AllByRecursion P (requests_of a))) → IfOk (if passed then Ok script else with_asked script asked) (EachRequest P)
each-after P script true asked all more = all
each-after P script false (Err fault) all more = tt
each-after P script false (Ok asked) all more =
    let new = with_requests script (stream_asked asked) (requests_of asked) in
    if_else (EachRequest P) (nat_le (count_of new) 65536) (Ok new) (Err TooMany) (rows-with P script (stream_asked asked) (requests_of asked) all (more refl)) tt

-- the writes have whole blocks behind a line too
pub whole-after : (script new : Script) (text : List ℕ) → after_text script text ≡ Ok new → EachRequest IsServed script → EachRequest IsServed new
whole-after script new text is all =
    subst (λ (r : Result Script LineFault). IfOk r (EachRequest IsServed)) is
    (each-after IsServed script (is_passed_over text) (asked_of_line text) all (λ not. asked_whole (asked_of_line text) (line_whole text)))

-- a line that is served ends
pub goes-line : (number before size : ℕ) (script more : Script) (line text line' rest : List ℕ)
    → OneLine line → length line ≤ 32768 → before + length line < 134217728 → text ≡ line → after_text script text ≡ Ok more
    → size ≡ length line → line' ≡ []
    → goes_on_from number before script line (10 ∷ rest) ≡ goes_on_from (number + 1) (before + (size + 1)) more line' rest
goes-line number before size script more line text line' rest one short room same is sized empty =
    rw (empty, sized) (next-line number before script more line rest one short room (ap (after_text script) (sym same) ∙ is))

-- what is kept as a line ends
pub sound-line : (count number before size count' : ℕ) (script new : Script) (line text line' : List ℕ)
    → IsReadingBytes count number before script line → before + length line < 134217728
    → length new ≡ 16 → IsAdded (after_text script text) new count' → size ≡ length line
    → line' ≡ [] → IsReadingBytes count' (number + 1) (before + (size + 1)) new line'
sound-line count number before size count' script new line text line' is room rows added sized empty =
    let none : length line' ≡ 0 = ap (λ (l : List ℕ). length l) empty in
    record {
      rows = rows;
      counted = added.counted;
      few = added.few;
      short = omega (arith, none);
      one_line = subst OneLine (sym empty) tt;
      within = omega (arith, room, sized, none);
      numbered = omega (arith, is.numbered);
      writes = whole-after script new text added.same is.writes;
    }

-- a last line that lacks its newline and is served
pub goes-last : (number before : ℕ) (script more requests : Script) (line text : List ℕ)
    → OneLine line → line ≢ [] → length line ≤ 32768 → before + length line ≤ 134217728 → text ≡ line → after_text script text ≡ Ok more
    → requests ≡ more → goes_on_from number before script line [] ≡ Ok requests
goes-last number before script more requests line text one some short within same is taken =
    served-last number before script more line one some short within (ap (after_text script) (sym same) ∙ is) ∙ ap Ok (sym taken)

-- the requests are those of a whole script
pub whole-last : (count : ℕ) (script more requests : Script) (text : List ℕ) → EachRequest IsServed script → length more ≡ 16
    → IsAdded (after_text script text) more count → requests ≡ more → IsWholeScript requests
whole-last count script more requests text writes rows added taken =
    rw taken (record { rows = rows; few = omega (arith, added.counted, added.few); writes = whole-after script more text added.same writes })
