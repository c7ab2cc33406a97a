-- What a script that is read byte by byte becomes with the next byte.
use Rattle.std.specs.Prelude.{ℕ, ◌≡◌, ◌≢◌, ◌<◌, ◌≤◌, ◌+◌, ◌||◌, nat_lt, Bool, true, false, List, [], ◌∷◌, ◌++◌, length, Result, Ok, Err, refl}
use Rattle.std.specs.List.{onto_first}
use Rattle.std.proofs.Common.{sym, ◌∙◌, ap, subst, arith, inl, inr}
use Rattle.std.proofs.lemmas.Bool.Decides.{eqb_tells, nat_tests}
use Rattle.std.proofs.lemmas.List.{append_assoc, append-nil, length-append}
use Rattle.vdo_model.specs.Scripts.{Script}
use Rattle.stream_text.specs.WholeScript.{lines_with_ends, text_of, after_text, is_too_long, after_line, go_on, script_from}
use Rattle.stream_text.specs.ReadingBytes.{goes_on_from, refusal_said, IsReadingBytes, RefusesScript, StopsLine}
use Rattle.stream_text.specs.declared.refusal.ReadScript.{ReadScript}
use Rattle.stream_text.specs.declared.refusal.AddFault.{AddFault}
use Rattle.stream_text.specs.declared.refusal.AddFault.TheVariants as stop
use Rattle.stream_text.specs.declared.refusal.LineFault.{LineFault}
use Rattle.stream_text.specs.declared.refusal.LineFault.TheVariants.{TooLong}
use Rattle.stream_text.specs.declared.refusal.ScriptFault.{ScriptFault}
use Rattle.stream_text.proofs.LineLaws.{OneLine}

ends-other : (byte : ℕ) (rest : List ℕ) → byte ≢ 10 → lines_with_ends (byte ∷ rest) ≡ onto_first byte (lines_with_ends rest)
ends-other byte rest ne = elim (eqb_tells byte 10) [ inl same ↦ absurd (ne same.1) | inr other ↦ rw other.0 ]

-- a line that ends
pub ends-ended : (line rest : List ℕ) → OneLine line → lines_with_ends (line ++ 10 ∷ rest) ≡ (line ++ 10 ∷ []) ∷ lines_with_ends rest
ends-ended [] rest one = refl
ends-ended (byte ∷ line) rest one = ends-other byte (line ++ 10 ∷ rest) one.0 ∙ ap (onto_first byte) (ends-ended line rest one.1)

-- a last line that doesn't end
pub ends-last : (byte : ℕ) (line : List ℕ) → OneLine (byte ∷ line) → lines_with_ends (byte ∷ line) ≡ (byte ∷ line) ∷ []
ends-last byte [] one = ends-other byte [] one.0
ends-last byte (next ∷ line) one = ends-other byte (next ∷ line) one.0 ∙ ap (onto_first byte) (ends-last next line one.1)

-- the first line begins with this
record FirstHas (bytes beginning : List ℕ) : Type 0 where
  more : List ℕ
  lines : List (List ℕ)
  same : lines_with_ends bytes ≡ (beginning ++ more) ∷ lines

one_other : (byte : ℕ) (rest : List ℕ) (lines : List (List ℕ)) → lines_with_ends (byte ∷ rest) ≡ onto_first byte lines → FirstHas (byte ∷ rest) (byte ∷ [])
one_other byte rest [] same = record { more = []; lines = []; same = same }
one_other byte rest (line ∷ lines) same = record { more = line; lines = lines; same = same }

one_byte : (byte : ℕ) (rest : List ℕ) → FirstHas (byte ∷ rest) (byte ∷ [])
one_byte byte rest = elim (eqb_tells byte 10) [
  | inl same ↦ record { more = []; lines = lines_with_ends rest; same = rw same.0 refl }
  | inr other ↦ one_other byte rest (lines_with_ends rest) (ends-other byte rest other.1)
]

-- a line with one byte more
first_has : (line : List ℕ) (byte : ℕ) (rest : List ℕ) → OneLine line → FirstHas (line ++ byte ∷ rest) (line ++ byte ∷ [])
first_has [] byte rest one = one_byte byte rest
first_has (first ∷ line) byte rest one =
    let later = first_has line byte rest one.1 in
    record {
      more = later.more;
      lines = later.lines;
      same = ends-other first (line ++ byte ∷ rest) one.0 ∙ ap (onto_first first) later.same;
    }

text-other : (byte : ℕ) (rest : List ℕ) → byte ≢ 10 → text_of (byte ∷ rest) ≡ byte ∷ text_of rest
text-other byte rest ne = elim (eqb_tells byte 10) [ inl same ↦ absurd (ne same.1) | inr other ↦ rw other.0 refl ]

pub text-whole : (line : List ℕ) → OneLine line → text_of line ≡ line
text-whole [] one = refl
text-whole (byte ∷ line) one = text-other byte line one.0 ∙ ap (λ (t : List ℕ). byte ∷ t) (text-whole line one.1)

pub text-ended : (line : List ℕ) → OneLine line → text_of (line ++ 10 ∷ []) ≡ line
text-ended [] one = refl
text-ended (byte ∷ line) one = text-other byte (line ++ 10 ∷ []) one.0 ∙ ap (λ (t : List ℕ). byte ∷ t) (text-ended line one.1)

text-longer : (line : List ℕ) (byte : ℕ) (more : List ℕ) → OneLine line → byte ≢ 10 → length line < length (text_of ((line ++ byte ∷ []) ++ more))
text-longer [] byte more one ne = omega (arith, ap (λ (t : List ℕ). length t) (text-other byte more ne))
text-longer (first ∷ line) byte more one ne =
    omega (arith, text-longer line byte more one.1 ne, ap (λ (t : List ℕ). length t) (text-other first ((line ++ byte ∷ []) ++ more) one.0))

-- a line that isn't too long
after-short : (before : ℕ) (script : Script) (line text : List ℕ) → text_of line ≡ text → length text ≤ 32768 → before + length line ≤ 134217728
    → after_line before script line ≡ after_text script text
after-short before script line text is short within =
    let one : nat_lt 32768 (length text) ≡ false = grind (arith, nat_tests) in
    let two : nat_lt 134217728 (before + length line) ≡ false = grind (arith, nat_tests) in
    rw (is, one, two) refl

-- a line that is too long
after-long_line : (before : ℕ) (script : Script) (line : List ℕ) → 32768 < length (text_of line) → after_line before script line ≡ Err TooLong
after-long_line before script line long = let one : nat_lt 32768 (length (text_of line)) ≡ true = grind (arith, nat_tests) in rw one refl

or_true : (first second : Bool) → second ≡ true → (first || second) ≡ true
or_true true second is = refl
or_true false second is = is

after-long_script : (before : ℕ) (script : Script) (line : List ℕ) → 134217728 < before + length line → after_line before script line ≡ Err TooLong
after-long_script before script line long =
    let two : nat_lt 134217728 (before + length line) ≡ true = grind (arith, nat_tests) in
    let long : is_too_long before line ≡ true = or_true (nat_lt 32768 (length (text_of line))) _ two in
    rw long refl

-- the bytes go on with one more of the line
pub next-byte : (number before : ℕ) (script : Script) (line : List ℕ) (byte : ℕ) (rest : List ℕ)
    → goes_on_from number before script line (byte ∷ rest) ≡ goes_on_from number before script (line ++ byte ∷ []) rest
next-byte number before script line byte rest = rw append_assoc refl

ended : (number before : ℕ) (script : Script) (line rest : List ℕ) → OneLine line → length line ≤ 32768 → before + length line < 134217728
    → goes_on_from number before script line (10 ∷ rest)
    ≡ go_on number (after_text script line) (λ (more : Script). script_from (number + 1) (before + (length line + 1)) more (lines_with_ends rest))
ended number before script line rest one short within =
    let size : length (line ++ 10 ∷ []) ≡ length line + 1 = omega (arith, length-append line (10 ∷ [])) in
    ap (script_from number before script) (ends-ended line rest one)
    ∙ ap (λ (r : Result Script LineFault). go_on number r (λ (more : Script). script_from (number + 1) (before + length (line ++ 10 ∷ [])) more (lines_with_ends rest)))
    (after-short before script (line ++ 10 ∷ []) line (text-ended line one) short (omega (arith, size)))
    ∙ ap (λ (n : ℕ). go_on number (after_text script line) (λ (more : Script). script_from (number + 1) (before + n) more (lines_with_ends rest))) size

-- a line that is served ends
pub next-line : (number before : ℕ) (script more : Script) (line rest : List ℕ) → OneLine line → length line ≤ 32768 → before + length line < 134217728
    → after_text script line ≡ Ok more
    → goes_on_from number before script line (10 ∷ rest) ≡ goes_on_from (number + 1) (before + (length line + 1)) more [] rest
next-line number before script more line rest one short within is =
    ended number before script line rest one short within
    ∙ ap (λ (r : Result Script LineFault). go_on number r (λ (s : Script). script_from (number + 1) (before + (length line + 1)) s (lines_with_ends rest))) is

-- a line with a fault ends
pub faulty-line : (number before : ℕ) (script : Script) (fault : LineFault) (line rest : List ℕ) → OneLine line → length line ≤ 32768 → before + length line < 134217728
    → after_text script line ≡ Err fault
    → goes_on_from number before script line (10 ∷ rest) ≡ Err (record { line = number; fault = fault })
faulty-line number before script fault line rest one short within is =
    ended number before script line rest one short within
    ∙ ap (λ (r : Result Script LineFault). go_on number r (λ (s : Script). script_from (number + 1) (before + (length line + 1)) s (lines_with_ends rest))) is

-- the last line, which lacks its newline
pub last-line : (number before : ℕ) (script : Script) (line : List ℕ) → OneLine line → line ≢ [] → length line ≤ 32768 → before + length line ≤ 134217728
    → goes_on_from number before script line [] ≡ go_on number (after_text script line) (λ (more : Script). Ok more)
last-line number before script [] one some short within = absurd (some refl)
last-line number before script (byte ∷ line) one some short within =
    ap (λ (t : List ℕ). script_from number before script (lines_with_ends t)) (append-nil (byte ∷ line))
    ∙ ap (script_from number before script) (ends-last byte line one)
    ∙ ap (λ (r : Result Script LineFault). go_on number r (λ (more : Script). Ok more))
    (after-short before script (byte ∷ line) (byte ∷ line) (text-whole (byte ∷ line) one) short within)

refused : (number before : ℕ) (script : Script) (line : List ℕ) (lines : List (List ℕ)) → after_line before script line ≡ Err TooLong
    → script_from number before script (line ∷ lines) ≡ Err (record { line = number; fault = TooLong })
refused number before script line lines long =
    ap (λ (r : Result Script LineFault). go_on number r (λ (more : Script). script_from (number + 1) (before + length line) more lines)) long

-- a line gets too long
pub long-line : (number before : ℕ) (script : Script) (line : List ℕ) (byte : ℕ) (rest : List ℕ) → OneLine line → byte ≢ 10 → 32768 ≤ length line
    → goes_on_from number before script line (byte ∷ rest) ≡ Err (record { line = number; fault = TooLong })
long-line number before script line byte rest one ne long =
    let first = first_has line byte rest one in
    ap (script_from number before script) first.same
    ∙ refused number before script ((line ++ byte ∷ []) ++ first.more) first.lines
    (after-long_line before script ((line ++ byte ∷ []) ++ first.more) (omega (arith, text-longer line byte first.more one ne)))

-- the script gets too long
pub long-script : (number before : ℕ) (script : Script) (line : List ℕ) (byte : ℕ) (rest : List ℕ) → OneLine line → 134217728 ≤ before + length line
    → goes_on_from number before script line (byte ∷ rest) ≡ Err (record { line = number; fault = TooLong })
long-script number before script line byte rest one long =
    let first = first_has line byte rest one in
    let size : length ((line ++ byte ∷ []) ++ first.more) ≡ length line + 1 + length first.more =
    omega (arith, length-append (line ++ byte ∷ []) first.more, length-append line (byte ∷ [])) in
    ap (script_from number before script) first.same
    ∙ refused number before script ((line ++ byte ∷ []) ++ first.more) first.lines
    (after-long_script before script ((line ++ byte ∷ []) ++ first.more) (omega (arith, size)))

-- what is kept as a line gets longer
pub sound-byte : (count number before : ℕ) (script : Script) (line : List ℕ) (byte : ℕ)
    → IsReadingBytes count number before script line → before + length line < 134217728 → length line < 32768 → byte ≢ 10
    → IsReadingBytes count number before script (line ++ byte ∷ [])
sound-byte count number before script line byte is room short ne = record {
  rows = is.rows;
  counted = is.counted;
  few = is.few;
  short = omega (arith, length-append line (byte ∷ []), short);
  one_line = longer line is.one_line;
  within = omega (arith, length-append line (byte ∷ []), room);
  numbered = is.numbered;
  writes = is.writes;
}
  where
    longer : (line : List ℕ) → OneLine line → OneLine (line ++ byte ∷ [])
    longer [] one = (ne, tt)
    longer (first ∷ line) one = (one.0, longer line one.1)

-- a line that adds nothing ends
pub stops-line : (number before : ℕ) (script : Script) (line rest : List ℕ) (why : AddFault) (said : ReadScript) → OneLine line → length line ≤ 32768
    → before + length line < 134217728 → StopsLine why (after_text script line) → said ≡ refusal_said number why
    → RefusesScript said (goes_on_from number before script line (10 ∷ rest))
stops-line number before script line rest (stop.Fault fault) said one short within is same =
    subst (λ (r : ReadScript). RefusesScript r (goes_on_from number before script line (10 ∷ rest))) (sym same)
    (faulty-line number before script fault line rest one short within is)
stops-line number before script line rest stop.Memory said one short within is same =
    subst (λ (r : ReadScript). RefusesScript r (goes_on_from number before script line (10 ∷ rest))) (sym same) tt

pub refuses-so : (number : ℕ) (fault : LineFault) (said : ReadScript) (script : Result Script ScriptFault) → said ≡ refusal_said number (stop.Fault fault)
    → script ≡ Err (record { line = number; fault = fault }) → RefusesScript said script
refuses-so number fault said script same is = subst (λ (r : ReadScript). RefusesScript r script) (sym same) is

-- a last line that lacks its newline and is served
pub served-last : (number before : ℕ) (script more : Script) (line : List ℕ) → OneLine line → line ≢ [] → length line ≤ 32768 → before + length line ≤ 134217728
    → after_text script line ≡ Ok more → goes_on_from number before script line [] ≡ Ok more
served-last number before script more line one some short within is =
    last-line number before script line one some short within
    ∙ ap (λ (r : Result Script LineFault). go_on number r (λ (s : Script). Ok s)) is

-- a last line that lacks its newline and adds nothing
pub stops-last : (number before : ℕ) (script : Script) (line : List ℕ) (why : AddFault) (said : ReadScript) → OneLine line → line ≢ [] → length line ≤ 32768
    → before + length line ≤ 134217728 → StopsLine why (after_text script line) → said ≡ refusal_said number why
    → RefusesScript said (goes_on_from number before script line [])
stops-last number before script line (stop.Fault fault) said one some short within is same =
    subst (λ (r : ReadScript). RefusesScript r (goes_on_from number before script line [])) (sym same)
    (last-line number before script line one some short within
    ∙ ap (λ (r : Result Script LineFault). go_on number r (λ (s : Script). Ok s)) is)
stops-last number before script line stop.Memory said one some short within is same =
    subst (λ (r : ReadScript). RefusesScript r (goes_on_from number before script line [])) (sym same) tt
