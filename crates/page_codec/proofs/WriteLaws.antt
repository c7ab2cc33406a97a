-- How far a page is written after each run of slots.
use Rattle.std.specs.Prelude.{ℕ, zero, suc, ◌≡◌, ◌+◌, ◌-◌, ◌*◌, ◌<◌, ◌++◌, List, length, take, drop, replicate, flat_map, refl}
use Rattle.std.proofs.Common.{sym, ◌∙◌, ap, arith, length-drop}
use Rattle.std.proofs.Math.Seq.{take-add}
use Rattle.std.proofs.lemmas.Grind.{flat_map-append}
use Rattle.std.proofs.lemmas.List.{drop-drop, drop-replicate, drop_at, length-take-le, replicate-append-replicate, take-replicate, take_at}
use Rattle.blk_base.specs.declared.place.Mapping.{Mapping}
use Rattle.blk_base.specs.declared.place.Mapping.TheVariants.{Unmapped}
use Rattle.byte_fields.proofs.FieldLaws.{length-records, parts}
use Rattle.byte_fields.proofs.MappingLaws.{length-mapping}
use Rattle.byte_fields.specs.Mappings.{mapping_bytes}
use Rattle.page_codec.proofs.RunLaws.{zeros_unmapped}

-- the first mappings are written, so many runs, and zeros are behind them
abbrev pub IsWrittenTo : ℕ → List Mapping → List ℕ → Type 0
IsWrittenTo run ms page = page ≡ flat_map mapping_bytes (take (28 * run) ms) ++ replicate (4060 - 140 * run) 0

-- unmapped slots are zeros
pub unmapped_zeros : (n : ℕ) → flat_map mapping_bytes (replicate n Unmapped) ≡ replicate (5 * n) 0
unmapped_zeros zero = refl
unmapped_zeros (suc n) =
    let more : 5 + 5 * n ≡ 5 * suc n = omega arith in
    ap (λ (b : List ℕ). mapping_bytes Unmapped ++ b) (unmapped_zeros n) ∙ ap (λ (b : List ℕ). b ++ replicate (5 * n) 0) (sym zeros_unmapped)
    ∙ replicate-append-replicate 5 (5 * n) 0 ∙ ap (λ (k : ℕ). replicate k 0) more

-- how long the runs in front are
length-runs : (ms : List Mapping) (run : ℕ) → run < 29 → length ms ≡ 812 → length (flat_map mapping_bytes (take (28 * run) ms)) ≡ 140 * run
length-runs ms run below count =
    let long = length-records mapping_bytes 5 length-mapping (take (28 * run) ms) in
    let taken = length-take-le (28 * run) ms (omega (arith, below, count)) in
    omega (arith, long, taken)

-- a piece of 140 bytes is written behind what is written before
behind : (page next written zeros piece left : List ℕ) (at : ℕ) → length written ≡ at → page ≡ written ++ zeros → take (at + 140) next ≡ take at page ++ piece
    → drop (at + 140) next ≡ drop (at + 140) page → drop 140 zeros ≡ left → next ≡ (written ++ piece) ++ left
behind page next written zeros piece left at long is front back rest =
    parts (at + 140) next (written ++ piece) left (front ∙ ap (λ (b : List ℕ). b ++ piece) (ap (take at) is ∙ take_at written zeros at long))
    (back ∙ ap (drop (at + 140)) is ∙ sym (drop-drop 140 at (written ++ zeros)) ∙ ap (drop 140) (drop_at written zeros at long) ∙ rest)

-- a run more is written
pub run_written : (page next : List ℕ) (ms : List Mapping) (run : ℕ) → run < 29 → length ms ≡ 812 → IsWrittenTo run ms page
    → take (140 * run + 140) next ≡ take (140 * run) page ++ flat_map mapping_bytes (take 28 (drop (28 * run) ms))
    → drop (140 * run + 140) next ≡ drop (140 * run + 140) page → IsWrittenTo (run + 1) ms next
run_written page next ms run below count is front back =
    let long = length-runs ms run below count in
    let more : 28 * run + 28 ≡ 28 * (run + 1) = omega arith in
    let left : 4060 - 140 * run - 140 ≡ 4060 - 140 * (run + 1) = omega arith in
    behind page next (flat_map mapping_bytes (take (28 * run) ms)) (replicate (4060 - 140 * run) 0) (flat_map mapping_bytes (take 28 (drop (28 * run) ms)))
    (replicate (4060 - 140 * (run + 1)) 0) (140 * run) long is front back (drop-replicate 140 (4060 - 140 * run) 0 ∙ ap (λ (n : ℕ). replicate n 0) left)
    ∙ ap (λ (b : List ℕ). b ++ replicate (4060 - 140 * (run + 1)) 0)
    (sym (flat_map-append mapping_bytes (take (28 * run) ms) (take 28 (drop (28 * run) ms)))
    ∙ ap (flat_map mapping_bytes) (sym (take-add (28 * run) 28 ms) ∙ ap (λ (n : ℕ). take n ms) more))

-- a run of unmapped slots is written already
pub unmapped_written : (page : List ℕ) (ms : List Mapping) (run : ℕ) → run < 29 → length ms ≡ 812 → IsWrittenTo run ms page
    → take 28 (drop (28 * run) ms) ≡ replicate (length (take 28 (drop (28 * run) ms))) Unmapped → IsWrittenTo (run + 1) ms page
unmapped_written page ms run below count is unmapped =
    let long = length-runs ms run below count in
    let many : length (take 28 (drop (28 * run) ms)) ≡ 28 = length-take-le 28 (drop (28 * run) ms) (simp length-drop (omega (arith, below, count))) in
    let written : List ℕ = flat_map mapping_bytes (take (28 * run) ms) in
    let zeros : List ℕ = replicate (4060 - 140 * run) 0 in
    let spelled : flat_map mapping_bytes (take 28 (drop (28 * run) ms)) ≡ replicate 140 0 =
    ap (flat_map mapping_bytes) (unmapped ∙ ap (λ (n : ℕ). replicate n Unmapped) many) ∙ unmapped_zeros 28 in
    run_written page page ms run below count is
    (take-add (140 * run) 140 page ∙ ap (λ (b : List ℕ). take (140 * run) page ++ b)
    (ap (take 140) (ap (drop (140 * run)) is ∙ drop_at written zeros (140 * run) long) ∙ take-replicate 140 (4060 - 140 * run) 0 (omega (arith, below)) ∙ sym spelled))
    refl
