-- A file in memory holds what its calls settled.
use Rattle.std.proofs.Common.{ℕ, ◌≡◌, ◌+◌, ◌-◌, ◌*◌, ◌≤◌, ◌<◌, ◌∙◌, true, List, ◌∷◌, ◌++◌, length, take, drop, ap, sym, inl, inr, arith}
use Rattle.std.specs.Prelude.{leb}
use Rattle.std.proofs.Math.Bool.{and-false}
use Rattle.std.proofs.Math.Seq.{drop-append-add}
use Rattle.std.proofs.lemmas.Bool.{cases_lt, le-leb, lt-leb, lt-ltb, le-ltb}
use Rattle.std.proofs.lemmas.List.{take-append-le, drop-append-le, drop-take, drop-drop, length-append, length-drop, length-take-le, take-take, take_at}
use Rattle.file_disk.specs.FileBytes.{front, file_sector}
use Rattle.file_disk.specs.FileLog.{FileCall, WriteAt, put_into, HoldsCalls}
use Rattle.file_disk.specs.FileSeen.{FileSeen, Gives, BeginsSector}
use Rattle.file_disk.proofs.FrontLaws.{front-within, front-zero}

-- A read at the end gives nothing, and one before it a first part of what is left.
pub gives_none : (file : FileSeen) (offset : ℕ) (into : List ℕ) → length file.bytes ≤ offset → Gives file offset into 0
gives_none file offset into end = record { bytes = sym (front-zero (drop offset file.bytes)); end = λ none room. end }

pub gives_part : (file : FileSeen) (offset count : ℕ) (into rest : List ℕ) → into ≡ take count (drop offset file.bytes) ++ rest → offset + count ≤ length file.bytes
    → (count ≡ 0 → 0 < length into → length file.bytes ≤ offset) → Gives file offset into count
gives_part file offset count into rest same inside end =
    let room : count ≤ length (drop offset file.bytes) = omega (arith, inside, length-drop offset file.bytes) in
    let size : length (take count (drop offset file.bytes)) ≡ count = length-take-le count (drop offset file.bytes) room in
    record {
      bytes = ap (take count) same ∙ take_at (take count (drop offset file.bytes)) rest count size ∙ sym (front-within count (drop offset file.bytes) room);
      end = end;
    }

module _ (offset first : ℕ) (from bytes : List ℕ) (begins : offset ≡ 512 * first) (whole : length from ≡ 4096) (inside : offset + 4096 ≤ length bytes) where
  -- what a write leaves
  abbrev written : List ℕ
  written = take offset bytes ++ (from ++ drop (offset + length from) bytes)

  size_before : length (take offset bytes) ≡ offset
  size_before = length-take-le offset bytes (omega (arith, inside))

  behind : (n : ℕ) → drop (offset + n) written ≡ drop n (from ++ drop (offset + length from) bytes)
  behind n =
      ap (λ (k : ℕ). drop (k + n) written) (sym size_before)
      ∙ drop-append-add (take offset bytes) (from ++ drop (offset + length from) bytes) n

  -- A sector that it reaches is from its bytes, and the others stay.
  sector_in : (s : ℕ) → offset ≤ 512 * s → 512 * s < offset + length from → file_sector s written ≡ put_into offset from s
  sector_in s above below =
      let d : 512 * s ≡ offset + (512 * s - offset) = omega arith in
      let room : 512 * s - offset + 512 ≤ length from = omega (arith, begins, whole) in
      let left : 512 ≤ length (drop (512 * s - offset) from) = omega (arith, room, length-drop (512 * s - offset) from) in
      let long : 512 ≤ length (drop (512 * s - offset) from ++ drop (offset + length from) bytes) =
      omega (arith, left, length-append (drop (512 * s - offset) from) (drop (offset + length from) bytes)) in
      ap (λ (k : ℕ). front 512 (drop k written)) d
      ∙ ap (front 512) (behind (512 * s - offset) ∙ drop-append-le (512 * s - offset) from (drop (offset + length from) bytes) (omega (arith, room)))
      ∙ front-within 512 (drop (512 * s - offset) from ++ drop (offset + length from) bytes) long
      ∙ take-append-le 512 (drop (512 * s - offset) from) (drop (offset + length from) bytes) left
      ∙ sym (front-within 512 (drop (512 * s - offset) from) left)

  sector_before : (s : ℕ) → 512 * s + 512 ≤ offset → file_sector s written ≡ file_sector s bytes
  sector_before s below =
      let split : offset ≡ 512 * s + (offset - 512 * s) = omega arith in
      let part : drop (512 * s) (take offset bytes) ≡ take (offset - 512 * s) (drop (512 * s) bytes) =
      ap (λ (k : ℕ). drop (512 * s) (take k bytes)) split ∙ drop-take (512 * s) (offset - 512 * s) bytes in
      let left : 512 ≤ length (drop (512 * s) bytes) = omega (arith, inside, length-drop (512 * s) bytes) in
      let some : 512 ≤ length (drop (512 * s) (take offset bytes)) = omega (arith, size_before, length-drop (512 * s) (take offset bytes)) in
      let long : 512 ≤ length (drop (512 * s) (take offset bytes) ++ (from ++ drop (offset + length from) bytes)) =
      omega (arith, some, length-append (drop (512 * s) (take offset bytes)) (from ++ drop (offset + length from) bytes)) in
      ap (front 512) (drop-append-le (512 * s) (take offset bytes) (from ++ drop (offset + length from) bytes) (omega (arith, size_before)))
      ∙ front-within 512 (drop (512 * s) (take offset bytes) ++ (from ++ drop (offset + length from) bytes)) long
      ∙ take-append-le 512 (drop (512 * s) (take offset bytes)) (from ++ drop (offset + length from) bytes) some
      ∙ ap (take 512) part ∙ take-take 512 (offset - 512 * s) (drop (512 * s) bytes) (omega arith)
      ∙ sym (front-within 512 (drop (512 * s) bytes) left)

  sector_after : (s : ℕ) → offset + length from ≤ 512 * s → file_sector s written ≡ file_sector s bytes
  sector_after s above =
      let e : 512 * s ≡ offset + (length from + (512 * s - (offset + length from))) = omega arith in
      let back : offset + length from + (512 * s - (offset + length from)) ≡ 512 * s = omega arith in
      ap (λ (k : ℕ). front 512 (drop k written)) e
      ∙ ap (front 512)
      (behind (length from + (512 * s - (offset + length from)))
      ∙ drop-append-add from (drop (offset + length from) bytes) (512 * s - (offset + length from))
      ∙ drop-drop (512 * s - (offset + length from)) (offset + length from) bytes ∙ ap (λ (k : ℕ). drop k bytes) back)

  written_holds : (opening : List ℕ) (log : List FileCall) → HoldsCalls opening log bytes → HoldsCalls opening (WriteAt offset from true ∷ log) written
  written_holds opening log holds s = elim (cases_lt (512 * s) offset) [
    | inl before ↦
        let below : 512 * s + 512 ≤ offset = omega (arith, before, begins) in
        rw (lt-leb offset (512 * s) before, sector_before s below) (holds s)
    | inr above ↦ elim (cases_lt (512 * s) (offset + length from)) [
      | inl below ↦ rw (le-leb offset (512 * s) above, lt-ltb (512 * s) (offset + length from) below) (inl (sector_in s above below))
      | inr past ↦ rw (le-ltb (512 * s) (offset + length from) past, and-false (leb offset (512 * s)), sector_after s past) (holds s)
    ]
  ]

-- A file in memory holds what its calls settled after a write of its bytes.
pub holds-write : (opening bytes bytes_new from given : List ℕ) (log log_new : List FileCall) (offset : ℕ) → BeginsSector offset → length from ≡ 4096
    → offset + 4096 ≤ length bytes → from ≡ given → log_new ≡ WriteAt offset given true ∷ log
    → bytes_new ≡ take offset bytes ++ (from ++ drop (offset + length from) bytes) → HoldsCalls opening log bytes → HoldsCalls opening log_new bytes_new
holds-write opening bytes bytes_new from given log log_new offset begins whole inside same logged written holds =
    rw (logged, ← same, written) (written_holds offset begins.0 from bytes begins.1 whole inside opening log holds)
