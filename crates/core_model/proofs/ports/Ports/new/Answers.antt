use Rattle.std.proofs.Common.{◌∙◌}
use Rattle.core_model.proofs.PortLaws.{made, made_ports}
use Rattle.core_model.proofs.ports.Ports.new.Goals as goal

pub invariant_of-result : goal.invariant_of-result
invariant_of-result c = made c.in_ok-boxes.boxes c.deref.result.now c.args.count _ c.in_ok-boxes.ensures (c.deref.ensures.value ∙ c.in_ok-rooms.ensures) c.requires c.empty.ensures

pub returns : goal.returns
returns c = made_ports c.in_ok-boxes.boxes c.deref.result.now c.args.count c.in_ok-boxes.ensures (c.deref.ensures.value ∙ c.in_ok-rooms.ensures)
