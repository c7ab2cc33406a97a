-- Whether a rule applies.
use Rattle.std.specs.Prelude.{List}
use Rattle.core_model.specs.Trace.{Trace}
use Rattle.data_vio.specs.Vios.{Post}

-- a rule allows something: what is kept then, what happens and what is posted
abbrev pub Applies : {New : Type 0} → (New → Trace → List Post → Type 0) → Type 0
Applies {New} Rule = (new : New) × (made : Trace) × (posts : List Post) × Rule new made posts
