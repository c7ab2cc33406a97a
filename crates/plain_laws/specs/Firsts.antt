-- A list without the first of its elements that passes a test.
use Rattle.std.specs.Prelude.{Bool, List, [], ◌∷◌, if◌then◌else◌}

abbrev pub but_first : {X : Type 0} → (X → Bool) → List X → List X
but_first test [] = []
but_first test (x ∷ xs) = if test x then xs else x ∷ but_first test xs
