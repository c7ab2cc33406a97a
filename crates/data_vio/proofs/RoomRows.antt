-- Where the bytes of an answer stand: for each clause what it accepts, and what breaks it.
use Rattle.std.proofs.Common.{◌≡◌, ◌≢◌, ◌∷◌, [], None, Some, refl, arith}
use Rattle.blk_base.specs.declared.request.Answer.TheVariants as reply
use Rattle.data_vio.specs.AnswerRooms.{HasRoom, blocks_of, gives_bytes, rooms}

-- gives_bytes: the answer of a read has a block, that of a write none
a_block : gives_bytes (reply.Bytes (7 ∷ [])) ≡ 1
a_block = refl

no_block : gives_bytes reply.Ok ≢ 1
no_block = λ same. omega (arith, same)

-- blocks_of: an answer that isn't known has none
known : blocks_of (Some (reply.Bytes (7 ∷ []))) ≡ 1
known = refl

unknown : blocks_of None ≢ 1
unknown = λ same. omega (arith, same)

-- rooms
a_room : rooms (Some (0 ∷ [])) ≡ 1
a_room = refl

no_room : rooms None ≢ 1
no_room = λ same. omega (arith, same)

-- HasRoom: before the bytes are given, and after it; but not once they have left
before : HasRoom (Some (0 ∷ [])) None
before = omega arith

after : HasRoom None (Some (reply.Bytes (7 ∷ [])))
after = omega arith

left : HasRoom None None → ⊥
left = λ has. omega (arith, has)

without_bytes : HasRoom None (Some reply.Ok) → ⊥
without_bytes = λ has. omega (arith, has)
