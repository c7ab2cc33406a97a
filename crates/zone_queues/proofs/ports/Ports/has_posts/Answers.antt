use Rattle.std.specs.Prelude.{not, IsTrue, ◌↔◌}
use Rattle.std.proofs.Common.{◌≡◌, ◌<◌, ◌∙◌, length, arith, ap, subst}
use Rattle.std.proofs.lemmas.List.{get_or_default}
use Rattle.zone_queues.specs.Queues.{Boxes, Queue, empty, outbox_to}
use Rattle.zone_queues.proofs.NetworkLaws.{some_items}
use Rattle.zone_queues.proofs.ports.Ports.has_posts.Goals as goal

pub returns : goal.returns
returns g c =
    let size = ap (λ (boxes : Boxes _). length boxes.outboxes) c.self.view_is in
    let inside : c.args.to < length c.self.inside.outboxes.items = omega (arith, c.requires, size) in
    let there : c.index.result.now ≡ outbox_to c.args.self.now c.args.to
    = c.index.ensures ∙ get_or_default c.self.inside.outboxes.items c.args.to c.index.result.now (empty _ 0) inside
    ∙ ap (λ (boxes : Boxes _). outbox_to boxes c.args.to) c.self.view_is in
    subst (λ (q : Queue _). IsTrue (not c.is_empty.result) ↔ (0 < length q.items)) there (some_items _ _ c.is_empty.ensures)
