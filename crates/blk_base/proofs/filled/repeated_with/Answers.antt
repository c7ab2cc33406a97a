use Rattle.std.proofs.Common.{◌≡◌, ◌∙◌, sym, ap, refl, List, [], ◌∷◌, ◌++◌, length, take, replicate, arith}
use Rattle.std.proofs.Math.Seq.{take-nil}
use Rattle.std.specs.List.{FoldsTo}
use Rattle.blk_base.proofs.filled.repeated_with.Goals as goal

all_equal : {F X : Type 0} (step : F → X → F → Type 0) (f last : F) (made : List X) (value : X) → FoldsTo step f made last
    → ((f g : F) (one : X) → step f one g → one ≡ value) → made ≡ replicate (length made) value
all_equal step f last [] value runs gives = refl
all_equal step f last (one ∷ made) value runs gives =
    ap (λ x. x ∷ made) (gives f runs.0 one runs.1) ∙ ap (λ xs. value ∷ xs) (all_equal step runs.0 last made value runs.2 gives)

pub returns : goal.returns
returns g c =
    let ran = c.in_ok-resize_with.ensures.items in
    let size : length c.resize_with.new.self.items ≡ c.args.count = omega (arith, c.resize_with.new.self.ok, c.in_ok-resize_with.ensures.len) in
    λ value gives.
    let items = ran.2 ∙ ap (λ kept. kept ++ ran.0) (ap (take c.args.count) c.in_ok-list.ensures.items ∙ take-nil c.args.count) in
    items ∙ all_equal _ _ ran.1 ran.0 value ran.3 gives ∙ ap (λ n. replicate n value) (sym (ap length items) ∙ size)
