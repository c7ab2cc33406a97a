use Rattle.std.proofs.Common.{◌∙◌, ◌-◌, drop, arith, length-drop}
use Rattle.std.proofs.lemmas.List.{take_all}
use Rattle.slab_codec.proofs.CounterLaws.{sector_spelled}
use Rattle.slab_codec.proofs.counters.read_reference.Goals as goal

pub returns : goal.returns
returns c =
    sector_spelled c.args.bytes.now _ (omega arith) (λ k. omega (arith, c.type_inv.bytes k)) c.read_u64.ensures
    (c.copy_from_slice.ensures.after ∙ take_all (512 - 8) (drop 8 c.args.bytes.now) (simp length-drop (omega arith)))
