use Rattle.std.proofs.Common.{◌≡◌, ◌∙◌, ◌*◌, length, flat_map, ap, sym, arith}
use Rattle.std.proofs.lemmas.List.{take_all}
use Rattle.slab_codec.specs.Reference.{reference_sector_bytes, reference_bytes}
use Rattle.slab_codec.proofs.counters.put_sectors.Goals as goal

pub returns : goal.returns
unfolding reference_bytes
returns c =
    let last : c.loop-i.i ≡ length c.args.sectors.now = omega arith in
    sym (take_all (512 * c.loop-i.i) c.loop-i.bytes (omega arith)) ∙ c.loop-i.invariant
    ∙ ap (flat_map reference_sector_bytes) (take_all c.loop-i.i c.args.sectors.now (omega (arith, last)))
