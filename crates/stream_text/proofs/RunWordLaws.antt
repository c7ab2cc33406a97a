-- A run that is read from a word, and the bytes of runs that are read one after the other.
use Rattle.std.specs.Prelude.{ℕ, ◌≡◌, ◌==◌, ◌≤◌, nat_le, Bool, true, false, List, [], ◌∷◌, length, min, replicate, take, MatchOption, Option, Some, None, Result, Ok, Err, if◌then◌else◌, refl}
use Rattle.std.specs.List.{onto_first}
use Rattle.std.proofs.Common.{Bor, sym, ◌∙◌, ap, subst, arith, inl, inr}
use Rattle.std.proofs.lemmas.Bool.{cases_Bool}
use Rattle.std.proofs.lemmas.Bool.Decides.{eqb_tells, nat_tests}
use Rattle.std.proofs.lemmas.List.{append_assoc, append-nil, length-replicate, take_all, take-replicate}
use Rattle.blk_base.specs.Sectors.{filled_block}
use Rattle.hex.specs.Hex.{decode_sized}
use Rattle.stream_text.specs.Runs.{Run}
use Rattle.stream_text.specs.LineFaults.{rank, first_of, both}
use Rattle.stream_text.specs.LineWords.{block_of_bytes, first_byte, run_number, run_of, run_of_pieces, run_of_part, run_before, bytes_of_parts}
use Rattle.stream_text.specs.PlainRuns.{BeginsWith}
use Rattle.stream_text.specs.RunParts.{behind, bytes_of_run, HoldsBytes, IsOfByte, run_said}
use Rattle.stream_text.specs.declared.blocks.PlainRun.{PlainRun}
use Rattle.stream_text.specs.declared.refusal.LineFault.{LineFault}
use Rattle.stream_text.specs.declared.refusal.LineFault.TheVariants.{Word}
use Rattle.stream_text.proofs.NumberLaws.{parts_of}

pub run_no_byte : (count digits : List ℕ) → first_byte (decode_sized digits 1) ≡ None → run_of_pieces (count ∷ digits ∷ []) ≡ Err Word
run_no_byte count digits none = ap (run_of (run_number count)) none ∙ word (run_number count)
  where
    word : (length : Result ℕ LineFault) → run_of length None ≡ Err Word
    word (Ok n) = refl
    word (Err fault) = refl

pub run_fault : (count digits : List ℕ) (byte : ℕ) (fault : LineFault) → first_byte (decode_sized digits 1) ≡ Some byte → run_number count ≡ Err fault
    → run_of_pieces (count ∷ digits ∷ []) ≡ Err fault
run_fault count digits byte fault some bad = ap (run_of (run_number count)) some ∙ ap (λ (length : Result ℕ LineFault). run_of length (Some byte)) bad

pub run_right : (count digits : List ℕ) (byte n : ℕ) → first_byte (decode_sized digits 1) ≡ Some byte → run_number count ≡ Ok n
    → run_of_pieces (count ∷ digits ∷ []) ≡ Ok (record { count = n; byte = byte })
run_right count digits byte n some good = ap (run_of (run_number count)) some ∙ ap (λ (length : Result ℕ LineFault). run_of length (Some byte)) good

three : (count digits : List ℕ) (byte : ℕ) (parts : List (List ℕ)) → run_of_pieces (count ∷ digits ∷ onto_first byte parts) ≡ Err Word
three count digits byte [] = refl
three count digits byte (part ∷ parts) = refl

three_if : (count digits : List ℕ) (byte : ℕ) (found : Bool) (parts : List (List ℕ))
    → run_of_pieces (count ∷ digits ∷ (if found then [] ∷ parts else onto_first byte parts)) ≡ Err Word
three_if count digits byte true parts = refl
three_if count digits byte false parts = three count digits byte parts

-- a second asterisk
pub run_many : (count digits rest : List ℕ) → run_of_pieces (count ∷ digits ∷ parts_of 42 rest) ≡ Err Word
run_many count digits [] = refl
run_many count digits (byte ∷ rest) = three_if count digits byte (byte == 42) (parts_of 42 rest)

pub first_of-assoc : (a b c : LineFault) → first_of (first_of a b) c ≡ first_of a (first_of b c)
first_of-assoc a b c =
    elim (cases_Bool (nat_le (rank a) (rank b))) [
      | inl ab ↦ elim (cases_Bool (nat_le (rank b) (rank c))) [
        | inl bc ↦ let ac : nat_le (rank a) (rank c) ≡ true = grind (arith, nat_tests) in rw (ab, bc, ac, ab) refl
        | inr cb ↦ rw (ab, cb) refl
      ]
      | inr ba ↦ elim (cases_Bool (nat_le (rank b) (rank c))) [
        | inl bc ↦ rw (ba, bc, ba) refl
        | inr cb ↦ let ca : nat_le (rank a) (rank c) ≡ false = grind (arith, nat_tests) in rw (ba, cb, ca) refl
      ]
    ]

-- the next run behind what was read
pub behind-next : (before : Result (List ℕ) LineFault) (run : Result Run LineFault) (bytes : Result (List ℕ) LineFault)
    → behind before (run_before (both run bytes)) ≡ behind (behind before (bytes_of_run run)) bytes
behind-next (Ok a) (Ok r) (Ok b) = ap Ok (sym (append_assoc a (replicate r.count r.byte) b))
behind-next (Ok a) (Ok r) (Err f) = refl
behind-next (Ok a) (Err e) (Ok b) = refl
behind-next (Ok a) (Err e) (Err f) = refl
behind-next (Err d) (Ok r) (Ok b) = refl
behind-next (Err d) (Ok r) (Err f) = refl
behind-next (Err d) (Err e) (Ok b) = refl
behind-next (Err d) (Err e) (Err f) = ap Err (sym (first_of-assoc d e f))

behind-nothing : (before : Result (List ℕ) LineFault) → behind before (Ok []) ≡ before
behind-nothing (Ok a) = ap Ok (append-nil a)
behind-nothing (Err e) = refl

-- the last run
pub behind-last : (before : Result (List ℕ) LineFault) (part : List ℕ)
    → behind before (bytes_of_parts (part ∷ [])) ≡ behind before (bytes_of_run (run_of_part part))
behind-last before part = behind-next before (run_of_part part) (Ok []) ∙ behind-nothing (behind before (bytes_of_run (run_of_part part)))

pub behind-start : (bytes : Result (List ℕ) LineFault) → behind (Ok []) bytes ≡ bytes
behind-start (Ok b) = refl
behind-start (Err e) = refl

-- a block that is filled with these bytes but for those of the rest
pub record FilledSo (all : Result (List ℕ) LineFault) (rest : List ℕ) (filled : Result ℕ LineFault) (block : List ℕ) : Type 0 where
  pub before : Result (List ℕ) LineFault
  pub same : all ≡ behind before (bytes_of_parts (parts_of 43 rest))
  pub held : HoldsBytes before filled block

pub filled-start : (before : Result (List ℕ) LineFault) (word : List ℕ) (filled : Result ℕ LineFault) (block : List ℕ) → HoldsBytes before filled block
    → FilledSo (behind before (bytes_of_parts (parts_of 43 word))) word filled block
filled-start before word filled block held = record { before = before; same = refl; held = held }

-- what a step keeps, whatever was before
abbrev pub Steps : Result ℕ LineFault → List ℕ → Result Run LineFault → Result ℕ LineFault → List ℕ → Type 0
Steps filled block run now after = (before : Result (List ℕ) LineFault) → HoldsBytes before filled block → HoldsBytes (behind before (bytes_of_run run)) now after

pub filled-next : (all : Result (List ℕ) LineFault) (rest part more : List ℕ) (filled now : Result ℕ LineFault) (block after : List ℕ) (run : Result Run LineFault) → FilledSo all rest filled block
    → parts_of 43 rest ≡ part ∷ parts_of 43 more → run ≡ run_of_part part → Steps filled block run now after → FilledSo all more now after
filled-next all rest part more filled now block after run so parts is steps = record {
  before = behind so.before (bytes_of_run run);
  same = so.same ∙ ap (λ (t : List (List ℕ)). behind so.before (bytes_of_parts t)) parts
      ∙ behind-next so.before (run_of_part part) (bytes_of_parts (parts_of 43 more))
      ∙ ap (λ (r : Result Run LineFault). behind (behind so.before (bytes_of_run r)) (bytes_of_parts (parts_of 43 more))) (sym is);
  held = steps so.before so.held;
}

pub filled-last : (all : Result (List ℕ) LineFault) (rest part : List ℕ) (filled now : Result ℕ LineFault) (block after : List ℕ) (run : Result Run LineFault) → FilledSo all rest filled block
    → parts_of 43 rest ≡ part ∷ [] → run ≡ run_of_part part → Steps filled block run now after → HoldsBytes all now after
filled-last all rest part filled now block after run so parts is steps =
    let same : all ≡ behind so.before (bytes_of_run run) =
    so.same ∙ ap (λ (t : List (List ℕ)). behind so.before (bytes_of_parts t)) parts
    ∙ behind-last so.before part ∙ ap (λ (r : Result Run LineFault). behind so.before (bytes_of_run r)) (sym is) in
    subst (λ (bytes : Result (List ℕ) LineFault). HoldsBytes bytes now after) (sym same) (steps so.before so.held)

-- the bytes of the first run, which stand in a block of its byte
part_of_byte : (n byte : ℕ) → n ≤ 4096 → take n (filled_block byte) ≡ replicate n byte
unfolding filled_block
part_of_byte n byte small = take-replicate n 4096 byte small

first_held : (run : Run) (filled : ℕ) (block : List ℕ) → filled ≡ min run.count 4097 → block ≡ filled_block run.byte → HoldsBytes (bytes_of_run (Ok run)) (Ok filled) block
first_held run filled block count made = (
  count ∙ ap (λ (n : ℕ). min n 4097) (sym (length-replicate run.count run.byte)),
  λ small. let all : filled ≡ run.count = omega (arith, count, small) in
      ap (take filled) made ∙ part_of_byte filled run.byte small ∙ ap (λ (n : ℕ). replicate n run.byte) all,
)

pub first_said : (first : Result PlainRun LineFault) (run : PlainRun) (filled : ℕ) (block : List ℕ) → first ≡ Ok run → filled ≡ min run.count 4097 → IsOfByte first block
    → HoldsBytes (bytes_of_run (run_said first)) (Ok filled) block
first_said (Ok said) run filled block is count made =
    let same : said ≡ run = cc in
    first_held (record { count = said.count; byte = said.byte }) filled block (count ∙ ap (λ (r : PlainRun). min r.count 4097) (sym same)) made
first_said (Err fault) run filled block is count made = absurd cc

-- all bytes of a word: those of its only run, and those of its first run and of the others
only_run : (word part : List ℕ) (run : Result Run LineFault) → parts_of 43 word ≡ part ∷ [] → run ≡ run_of_part part
    → bytes_of_parts (parts_of 43 word) ≡ bytes_of_run run
only_run word part run parts is =
    ap bytes_of_parts parts ∙ sym (behind-start (bytes_of_parts (part ∷ []))) ∙ behind-last (Ok []) part
    ∙ behind-start (bytes_of_run (run_of_part part)) ∙ ap bytes_of_run (sym is)

first_and_more : (word part more : List ℕ) (run : Result Run LineFault) → parts_of 43 word ≡ part ∷ parts_of 43 more → run ≡ run_of_part part
    → bytes_of_parts (parts_of 43 word) ≡ behind (bytes_of_run run) (bytes_of_parts (parts_of 43 more))
first_and_more word part more run parts is =
    ap bytes_of_parts parts ∙ sym (behind-start (bytes_of_parts (part ∷ parts_of 43 more)))
    ∙ behind-next (Ok []) (run_of_part part) (bytes_of_parts (parts_of 43 more))
    ∙ ap (λ (b : Result (List ℕ) LineFault). behind b (bytes_of_parts (parts_of 43 more))) (behind-start (bytes_of_run (run_of_part part)) ∙ ap bytes_of_run (sym is))

-- a block that holds the first run, and where there are others those too, holds all
pub filled_all : (word : List ℕ) (first : Result Run LineFault) (more : Option (Bor (List ℕ))) (filled : Result ℕ LineFault) (block : List ℕ)
    → MatchOption more (BeginsWith first word []) (λ rest. BeginsWith first word (parts_of 43 rest.now))
    → MatchOption more (HoldsBytes (bytes_of_run first) filled block) (λ rest. HoldsBytes (behind (bytes_of_run first) (bytes_of_parts (parts_of 43 rest.now))) filled block)
    → HoldsBytes (bytes_of_parts (parts_of 43 word)) filled block
filled_all word first None filled block begins held =
    subst (λ (b : Result (List ℕ) LineFault). HoldsBytes b filled block) (sym (only_run word begins.part first begins.parts begins.says)) held
filled_all word first (Some rest) filled block begins held =
    subst (λ (b : Result (List ℕ) LineFault). HoldsBytes b filled block) (sym (first_and_more word begins.part rest.now first begins.parts begins.says)) held

-- a block that is filled as a whole
pub whole_block : (bytes : Result (List ℕ) LineFault) (filled : ℕ) (block : List ℕ) → filled ≡ 4096 → length block ≡ 4096 → HoldsBytes bytes (Ok filled) block
    → block_of_bytes bytes ≡ Ok block
whole_block (Ok bytes) filled block all long (count, same) =
    let many : length bytes ≡ 4096 = omega (arith, all, count) in
    let here : block ≡ bytes = sym (take_all filled block (omega (arith, all, long))) ∙ same (omega (arith, all)) in
    elim (eqb_tells (length bytes) 4096) [ inl right ↦ rw right.0 (ap Ok (sym here)) | inr other ↦ absurd (other.1 many) ]
whole_block (Err fault) filled block all long held = absurd held
