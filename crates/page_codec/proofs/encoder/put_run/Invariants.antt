use Rattle.std.proofs.Common.{◌≡◌, ◌*◌, take, flat_map}
use Rattle.byte_fields.specs.Mappings.{mapping_bytes}
use Rattle.page_codec.proofs.encoder.put_run.Given as goal

-- the slots in front are written
abbrev pub invariant-loop-slot : goal.invariant-loop-slot
invariant-loop-slot l = take (5 * l.slot) l.run ≡ flat_map mapping_bytes (take l.slot l.slots)
