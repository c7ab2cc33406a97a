-- A line that is read byte by byte.
use Rattle.std.specs.Prelude.{ℕ, ◌≡◌, ◌≢◌, ◌<◌, ◌+◌, ◌==◌, Bool, false, List, [], ◌∷◌, ◌++◌, length, suc, get_or, drop}
use Rattle.std.proofs.Common.{◌∙◌, ap, arith}
use Rattle.std.proofs.Math.Seq.{drop-cons}
use Rattle.std.proofs.lemmas.Bool.Decides.{nat_tests}
pub use Rattle.stream_text.specs.ReadingState.{OneLine}

pub not_empty : (line : List ℕ) (empty : Bool) → empty ≡ (length line == 0) → empty ≡ false → line ≢ []
not_empty line empty told passed none = grind (arith, nat_tests, ap length none)

-- the next byte of some bytes, before a rest
pub next_before : (bytes rest : List ℕ) (n : ℕ) → n < length bytes → drop n bytes ++ rest ≡ get_or bytes n 0 ∷ (drop (n + 1) bytes ++ rest)
next_before bytes rest n within =
    let next : suc n ≡ n + 1 = omega arith in
    ap (λ (t : List ℕ). t ++ rest) (drop-cons bytes n 0 within) ∙ ap (λ (k : ℕ). get_or bytes n 0 ∷ (drop k bytes ++ rest)) next
