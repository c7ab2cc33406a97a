-- The first run of some bytes.
use Rattle.std.specs.Prelude.{ℕ, ◌≡◌, ◌≢◌, ◌<◌, ◌≤◌, zero, suc, List, [], ◌∷◌, length, get_or, take, drop, codes, ◌-◌, ◌+◌, ◌++◌, refl}
use Rattle.std.proofs.Common.{sym, ◌∙◌, ap, arith, inl, inr}
use Rattle.std.proofs.lemmas.Bool.Decides.{eqb_tells}
use Rattle.std.proofs.lemmas.List.{take_all, length-drop, drop-drop, get_or-drop, get_or-take}
use Rattle.stream_text.specs.Runs.{Run, with_byte, runs_of, run_text, later_text}

with_same : (byte count : ℕ) (runs : List Run) → with_byte byte (record { count = count; byte = byte } ∷ runs) ≡ record { count = suc count; byte = byte } ∷ runs
with_same byte count runs = elim (eqb_tells byte byte) [ inl same ↦ rw same.0 refl | inr other ↦ absurd (other.1 refl) ]

with_other : (byte other count : ℕ) (runs : List Run) → other ≢ byte
    → with_byte byte (record { count = count; byte = other } ∷ runs) ≡ record { count = 1; byte = byte } ∷ record { count = count; byte = other } ∷ runs
with_other byte other count runs ne = elim (eqb_tells other byte) [ inl same ↦ absurd (ne same.1) | inr apart ↦ rw apart.0 refl ]

-- the first run is of the first byte
record Begins (byte : ℕ) (runs : List Run) : Type 0 where
  count : ℕ
  later : List Run
  same : runs ≡ record { count = count; byte = byte } ∷ later

begins : (byte : ℕ) (runs : List Run) → Begins byte (with_byte byte runs)
begins byte [] = record { count = 1; later = []; same = refl }
begins byte (run ∷ runs) =
    elim (eqb_tells run.byte byte) [
      | inl same ↦ record { count = suc run.count; later = runs; same = rw same.0 refl }
      | inr other ↦ record { count = 1; later = run ∷ runs; same = rw other.0 refl }
    ]

alone : (byte : ℕ) (rest : List ℕ) → (0 < length rest → get_or rest 0 0 ≢ byte) → runs_of (byte ∷ rest) ≡ record { count = 1; byte = byte } ∷ runs_of rest
alone byte [] ends = refl
alone byte (next ∷ rest) ends =
    let later = begins next (runs_of rest) in
    ap (with_byte byte) later.same
    ∙ with_other byte next later.count later.later (ends (omega arith))
    ∙ ap (λ (runs : List Run). record { count = 1; byte = byte } ∷ runs) (sym later.same)

pub runs_of-first : (bytes : List ℕ) (byte n : ℕ) → n < length bytes → ((k : ℕ) → k < suc n → get_or bytes k 0 ≡ byte)
    → (suc n < length bytes → get_or bytes (suc n) 0 ≢ byte)
    → runs_of bytes ≡ record { count = suc n; byte = byte } ∷ runs_of (drop (suc n) bytes)
runs_of-first [] byte n within same ends = absurd (omega arith)
runs_of-first (first ∷ rest) byte zero within same ends =
    let is : first ≡ byte = same 0 (omega arith) in
    rw is (alone byte rest (λ some. ends (omega arith)))
runs_of-first (first ∷ rest) byte (suc n) within same ends =
    let is : first ≡ byte = same 0 (omega arith) in
    let later = runs_of-first rest byte n (omega arith) (λ k below. same (suc k) (omega arith)) (λ more. ends (omega arith)) in
    rw is (ap (with_byte byte) later ∙ with_same byte (suc n) (runs_of (drop (suc n) rest)))

-- the first run is `n` long, where the next byte is another
-- bytes of which each is the one before it
pub one_run : (bytes : List ℕ) → drop 1 bytes ≡ take (length bytes - 1) bytes → (k : ℕ) → k < length bytes → get_or bytes k 0 ≡ get_or bytes 0 0
one_run bytes same zero below = refl
one_run bytes same (suc k) below =
    let place : 1 + k ≡ suc k = omega arith in
    ap (λ (n : ℕ). get_or bytes n 0) (sym place) ∙ sym (get_or-drop 1 bytes k 0) ∙ ap (λ (xs : List ℕ). get_or xs k 0) same
    ∙ get_or-take (length bytes - 1) bytes k 0 (omega (arith, below)) ∙ one_run bytes same k (omega (arith, below))

pub first_run : (bytes : List ℕ) (n : ℕ) → 0 < length bytes → n ≤ length bytes → ((k : ℕ) → k < n → get_or bytes k 0 ≡ get_or bytes 0 0)
    → (n < length bytes → get_or bytes n 0 ≢ get_or bytes 0 0)
    → runs_of bytes ≡ record { count = n; byte = get_or bytes 0 0 } ∷ runs_of (drop n bytes)
first_run bytes zero some within same ends = absurd (ends some refl)
first_run bytes (suc n) some within same ends = runs_of-first bytes (get_or bytes 0 0) n (omega arith) same ends

pub rest_of : (bytes : List ℕ) (n : ℕ) → take (length bytes - n) (drop n bytes) ≡ drop n bytes
rest_of bytes n = take_all (length bytes - n) (drop n bytes) (simp length-drop (omega arith))

-- the first run of the bytes behind a place, and what is behind it
pub later_runs : (bytes : List ℕ) (at count : ℕ)
    → runs_of (take (length bytes - at) (drop at bytes))
    ≡ record { count = count; byte = get_or (take (length bytes - at) (drop at bytes)) 0 0 } ∷ runs_of (drop count (take (length bytes - at) (drop at bytes)))
    → later_text (runs_of (drop at bytes)) ≡ (codes "+" ++ run_text (record { count = count; byte = get_or bytes at 0 })) ++ later_text (runs_of (drop (at + count) bytes))
later_runs bytes at count run =
    let here = rw (rest_of bytes at) at run in
    let byte : get_or (drop at bytes) 0 0 ≡ get_or bytes at 0 = get_or-drop at bytes 0 0 ∙ ap (λ (n : ℕ). get_or bytes n 0) (omega arith) in
    let rest : drop count (drop at bytes) ≡ drop (at + count) bytes = drop-drop count at bytes in
    ap later_text here ∙ rw (byte, rest) refl
