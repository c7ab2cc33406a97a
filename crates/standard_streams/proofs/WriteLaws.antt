-- A stream holds what was written, piece by piece.
use Rattle.std.proofs.Common.{ℕ, ◌+◌, ◌∙◌, Some, None, Option, List, ◌++◌, take, drop, ap, sym, append_assoc}
use Rattle.std.proofs.Math.Seq.{take-add}
use Rattle.std.specs.Io.KnownBytes.{Appends, Keeps}

-- One more piece.
pub appends-more : (old middle new : Option (List ℕ)) (done n : ℕ) (bytes : List ℕ) → Appends old middle (take done bytes)
    → Appends middle new (take n (drop done bytes)) → Appends old new (take (done + n) bytes)
appends-more None middle new done n bytes so_far more = tt
appends-more (Some xs) None new done n bytes so_far more = absurd so_far
appends-more (Some xs) (Some ys) None done n bytes so_far more = absurd more
appends-more (Some xs) (Some ys) (Some zs) done n bytes so_far more =
    more ∙ ap (λ (held : List ℕ). held ++ take n (drop done bytes)) so_far ∙ append_assoc xs (take done bytes) (take n (drop done bytes))
    ∙ ap (λ (text : List ℕ). xs ++ text) (sym (take-add done n bytes))

-- A piece that wasn't written.
pub appends-same : (old middle new : Option (List ℕ)) (text : List ℕ) → Appends old middle text → Keeps middle new → Appends old new text
appends-same None middle new text so_far kept = tt
appends-same (Some xs) None new text so_far kept = absurd so_far
appends-same (Some xs) (Some ys) None text so_far kept = absurd kept
appends-same (Some xs) (Some ys) (Some zs) text so_far kept = kept ∙ so_far
