-- Lists of calls that lead from one state to another.
use Rattle.std.specs.Prelude.{◌≡◌, List, [], ◌∷◌}

-- these calls, the newest first, lead from the one state to the other, where each call does this
abbrev pub LeadsBy : {S C : Type 0} → (C → S → S → Type 0) → S → List C → S → Type 0
LeadsBy Does old [] new = new ≡ old
LeadsBy {S} Does old (call ∷ calls) new = (before : S) × LeadsBy Does old calls before × Does call before new
