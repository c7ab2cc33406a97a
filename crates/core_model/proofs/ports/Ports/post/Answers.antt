use Rattle.std.proofs.Common.{ap, subst, sym, ◌∙◌}
use Rattle.data_vio.specs.declared.items.Item.{Item}
use Rattle.zone_queues.specs.Queues.{Boxes}
use Rattle.core_model.specs.PortsData.{ArePorts, ports_of}
use Rattle.core_model.proofs.PortLaws.{posted_in, posted_ports, seen_at}
use Rattle.core_model.proofs.ports.Ports.post.Goals as goal

pub invariant_of-self : goal.invariant_of-self
invariant_of-self c =
    let boxes = c.self.inside.boxes in
    let room = c.requires.room _ (seen_at boxes c.args.self.now c.args.to c.self.view_is c.requires.there) in
    subst (λ (new : Boxes Item). ArePorts new c.put.new.self) (sym c.post.ensures)
    (posted_ports boxes c.args.self.now c.args.to c.args.item c.self.inside.posts c.put.new.self c.self.view_is c.requires.there room c.put.ensures c.self.invariant)

pub returns : goal.returns
returns c = ap ports_of c.post.ensures ∙ posted_in c.self.inside.boxes c.args.self.now c.args.to c.args.item c.self.view_is c.requires.there
