use Rattle.std.proofs.Common.{ap, subst, sym, ◌∙◌}
use Rattle.data_vio.specs.declared.items.Item.{Item}
use Rattle.zone_queues.specs.Queues.{Boxes}
use Rattle.core_model.specs.PortsData.{ArePorts, ports_of}
use Rattle.core_model.proofs.PortLaws.{emptied_ports, set_in}
use Rattle.core_model.proofs.ports.Ports.hand_over.Goals as goal

pub invariant_of-self : goal.invariant_of-self
invariant_of-self c =
    subst (λ (new : Boxes Item). ArePorts new c.put.new.self) (sym c.hand_over.ensures.left)
    (emptied_ports c.self.inside.boxes c.args.self.now c.args.to c.self.inside.posts c.put.new.self c.self.view_is c.requires.there c.put.ensures c.self.invariant)

pub returns-clause-left : goal.returns-clause-left
returns-clause-left c = ap ports_of c.hand_over.ensures.left ∙ set_in c.self.inside.boxes c.args.self.now c.args.to _ c.self.view_is
