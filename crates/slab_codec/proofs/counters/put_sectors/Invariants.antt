use Rattle.std.proofs.Common.{◌≡◌, ◌*◌, take, flat_map}
use Rattle.slab_codec.specs.Reference.{reference_sector_bytes}
use Rattle.slab_codec.proofs.counters.put_sectors.Given as goal

abbrev pub invariant-loop-i : goal.invariant-loop-i
invariant-loop-i l = take (512 * l.i) l.bytes ≡ flat_map reference_sector_bytes (take l.i l.sectors)
