use Rattle.device_zone.proofs.ZeroSlotLaws.{zeros_behind}
use Rattle.device_zone.proofs.leaves.has_zero_slots.Goals as goal

pub returns : goal.returns
returns c =
    let says = zeros_behind c.args.bytes.now c.requires in (
      λ yes. says.0 (c.all_zeros.ensures.0 yes),
      λ zeros. c.all_zeros.ensures.1 (says.1 zeros),
    )
