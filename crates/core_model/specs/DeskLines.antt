-- What a line of the desk log counts for.
use Rattle.std.specs.Prelude.{ℕ, ◌≤◌, List, [], ◌∷◌}
use Rattle.plain_laws.specs.Sums.{total}
use Rattle.vdo_model.specs.declared.report.DeskLine.{DeskLine}
use Rattle.vdo_model.specs.declared.report.DeskLine.TheVariants.{Begin, Answer}
use Rattle.data_vio.specs.AnswerRooms.{gives_bytes}

-- a request that is begun, and one that is answered
abbrev pub is_begin : DeskLine → ℕ
is_begin (Begin v) = 1
is_begin (Answer v a) = 0

abbrev pub is_answer : DeskLine → ℕ
is_answer (Begin v) = 0
is_answer (Answer v a) = 1

-- how many blocks of reads it has
abbrev pub is_bytes : DeskLine → ℕ
is_bytes (Begin v) = 0
is_bytes (Answer v a) = gives_bytes a

-- at no moment more requests were answered than begun
abbrev pub AreBegunFirst : List DeskLine → Type 0
AreBegunFirst [] = Unit {0}
AreBegunFirst (line ∷ older) = (total is_answer (line ∷ older) ≤ total is_begin (line ∷ older)) × AreBegunFirst older
