use Rattle.std.proofs.Common.{◌≡◌, ◌≤◌, vec_len, vec_capacity}
use Rattle.data_vio.proofs.answer_boxes.AnswerBoxes.new.Given as goal

abbrev pub invariant-loop-made : goal.invariant-loop-made
invariant-loop-made l = (vec_len l.boxes ≡ l.made) × (l.count ≤ vec_capacity l.boxes)
