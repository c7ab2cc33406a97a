-- What a script that is read line by line becomes with the next part of a line.
use Rattle.std.specs.Prelude.{ℕ, ◌≡◌, ◌≢◌, ◌<◌, ◌≤◌, ◌+◌, ◌-◌, zero, suc, List, [], ◌∷◌, ◌++◌, length, take, drop, get_or}
use Rattle.std.proofs.Common.{sym, ◌∙◌, ap, arith}
use Rattle.std.proofs.Math.Seq.{drop-cons}
use Rattle.std.proofs.lemmas.List.{append_assoc, length-append, length-drop, take-append-drop, take_all}
use Rattle.vdo_model.specs.Scripts.{Script}
use Rattle.stream_text.specs.WholeScript.{lines_with_ends, script_from}
use Rattle.stream_text.specs.ReadingBytes.{goes_on_from, IsReadingBytes}
use Rattle.stream_text.proofs.LineLaws.{OneLine}

-- the bytes go on with a part more of the line
pub next-part : (number before : ℕ) (script : Script) (line part rest : List ℕ)
    → goes_on_from number before script line (part ++ rest) ≡ goes_on_from number before script (line ++ part) rest
next-part number before script line part rest = ap (λ (t : List ℕ). script_from number before script (lines_with_ends t)) (sym (append_assoc line part rest))

-- what is kept as a line gets longer
pub sound-part : (count number before : ℕ) (script : Script) (line part : List ℕ)
    → IsReadingBytes count number before script line → OneLine part → before + length line + length part ≤ 134217728 → length line + length part ≤ 32768
    → IsReadingBytes count number before script (line ++ part)
sound-part count number before script line part is one room short = record {
  rows = is.rows;
  counted = is.counted;
  few = is.few;
  short = omega (arith, length-append line part, short);
  one_line = longer line is.one_line;
  within = omega (arith, length-append line part, room);
  numbered = is.numbered;
  writes = is.writes;
}
  where
    longer : (line : List ℕ) → OneLine line → OneLine (line ++ part)
    longer [] no_more = one
    longer (first ∷ line) all = (all.0, longer line all.1)

-- the bytes before the first newline, and those behind it
pub one_line : (bytes : List ℕ) (at : ℕ) → ((k : ℕ) → k < at → get_or bytes k 0 ≢ 10) → at ≤ length bytes → OneLine (take at bytes)
one_line bytes zero none within = tt
one_line [] (suc at) none within = absurd (omega (arith, within))
one_line (byte ∷ bytes) (suc at) none within = (none 0 (omega arith), one_line bytes at (λ k below. none (suc k) (omega (arith, below))) (omega (arith, within)))

pub first_line : (bytes : List ℕ) (at : ℕ) → at < length bytes → get_or bytes at 0 ≡ 10
    → bytes ≡ take at bytes ++ 10 ∷ take (length bytes - (at + 1)) (drop (at + 1) bytes)
first_line bytes at within newline =
    let next : suc at ≡ at + 1 = omega arith in
    let left = length-drop (at + 1) bytes in
    let all : take (length bytes - (at + 1)) (drop (at + 1) bytes) ≡ drop (at + 1) bytes =
    take_all (length bytes - (at + 1)) (drop (at + 1) bytes) (omega (arith, left)) in
    sym (take-append-drop at bytes)
    ∙ ap (λ (t : List ℕ). take at bytes ++ t) (drop-cons bytes at 0 within ∙ ap (λ (b : ℕ). b ∷ drop (suc at) bytes) newline ∙ ap (λ (k : ℕ). 10 ∷ drop k bytes) next
    ∙ ap (λ (t : List ℕ). 10 ∷ t) (sym all))

-- the same before later bytes
pub line_before : (bytes later : List ℕ) (at : ℕ) → at < length bytes → get_or bytes at 0 ≡ 10
    → bytes ++ later ≡ take at bytes ++ (10 ∷ (take (length bytes - (at + 1)) (drop (at + 1) bytes) ++ later))
line_before bytes later at within newline =
    ap (λ (t : List ℕ). t ++ later) (first_line bytes at within newline)
    ∙ append_assoc (take at bytes) (10 ∷ take (length bytes - (at + 1)) (drop (at + 1) bytes)) later
