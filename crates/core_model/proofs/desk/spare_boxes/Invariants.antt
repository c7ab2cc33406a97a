use Rattle.std.proofs.Common.{◌≡◌, ◌≤◌, vec_len, vec_capacity}
use Rattle.core_model.proofs.desk.spare_boxes.Given as goal

abbrev pub invariant-loop-made : goal.invariant-loop-made
invariant-loop-made l = (vec_len l.boxes ≡ l.made) × (l.fn.count ≤ vec_capacity l.boxes)
