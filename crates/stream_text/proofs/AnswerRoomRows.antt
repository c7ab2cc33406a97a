-- Room for notes: a script that it is for, and one that it is too small for.
use Rattle.std.proofs.Common.{zero, suc, [], ◌∷◌, arith}
use Rattle.blk_base.specs.declared.request.Request.TheVariants.{Flush}
use Rattle.stream_text.specs.AnswerRooms.{HasRoomFor}

room_enough : HasRoomFor 1 ((Flush ∷ []) ∷ [])
room_enough zero within = omega arith
room_enough (suc stream) within = omega arith

room_short : HasRoomFor 1 ([] ∷ (Flush ∷ Flush ∷ []) ∷ []) → ⊥
room_short room = absurd (let fits = room 1 (omega arith) in omega (arith, fits))
