-- Lines that are put one behind the other.
use Rattle.std.specs.Prelude.{ℕ, ◌≡◌, ◌<◌, ◌+◌, List, ◌++◌, length, get_or, map, drop}
use Rattle.std.specs.List.{concat}
use Rattle.std.proofs.Common.{sym, ◌∙◌, ap}
use Rattle.stream_text.proofs.PutLaws.{pieces-next}

-- the next of some lines
pub lines-next : {T : Type 0} (text : T → List ℕ) (lines : List T) (n : ℕ) (line : T) → n < length lines → line ≡ get_or lines n line
    → concat (map text (drop n lines)) ≡ text line ++ concat (map text (drop (n + 1) lines))
lines-next {T} text lines n line within is =
    pieces-next text lines n line within ∙ ap (λ (x : T). text x ++ concat (map text (drop (n + 1) lines))) (sym is)
