use Rattle.std.proofs.Common.{arith, ap, ◌≡◌, ◌∙◌, [], ◌∷◌, ◌++◌, sym, List, None, Some, append_assoc, length-append}
use Rattle.std.proofs.lemmas.List.{append-nil}
use Rattle.blk_base.specs.declared.place.ZoneId.TheVariants as id
use Rattle.data_vio.specs.declared.items.Item.TheVariants as item
use Rattle.blk_base.specs.declared.request.Answer.TheVariants as reply
use Rattle.data_vio.specs.declared.items.Phase.TheVariants as phase
use Rattle.core_model.specs.LogicalData.{LogicalZone}
use Rattle.core_model.specs.LogicalRules.{all_for, all_stopped, but_first_for, first_for}
use Rattle.data_vio.specs.Vios.{ended}
use Rattle.data_vio.specs.declared.items.Vio.{Vio}
use Rattle.logical_zone.proofs.WaitingLaws.{emptied, fewer_wait, last_emptied, next_emptied, next_waiting, nobody, others_wait}
use Rattle.logical_zone.proofs.waiters.stop_all.Goals as goal

pub loop-vio-smaller : goal.loop-vio-smaller
loop-vio-smaller c =
    let first : first_for c.args.at.0 c.loop-vio.zone.waiting ≡ Some c.in-Some.vio = sym c.release.ensures.next ∙ c.in-Some.is in
    let fewer = fewer_wait c.args.at.0 c.loop-vio.zone.waiting c.in-Some.vio first in
    rw (c.release.ensures.zone, next_waiting c.args.at.0 c.loop-vio.zone c.in-Some.vio first) (omega (arith, fewer))

pub loop-vio-preserved : goal.loop-vio-preserved
loop-vio-preserved c =
    let first : first_for c.args.at.0 c.loop-vio.zone.waiting ≡ Some c.in-Some.vio = sym c.release.ensures.next ∙ c.in-Some.is in
    let others = others_wait c.args.at.0 c.loop-vio.zone.waiting c.in-Some.vio first in
    let fewer = fewer_wait c.args.at.0 c.loop-vio.zone.waiting c.in-Some.vio first in
    let size = length-append c.loop-vio.posts ((id.Desk, item.Request c.end-stopped.result) ∷ []) in
    let waiting : c.release.new.self.waiting ≡ but_first_for c.args.at.0 c.loop-vio.zone.waiting
    = ap (λ (l : LogicalZone). l.waiting) c.release.ensures.zone ∙ next_waiting c.args.at.0 c.loop-vio.zone c.in-Some.vio first in
    record {
      room = rw (c.push.ensures, waiting) (omega (arith, size, fewer, c.loop-vio.invariant.room));
      rest = c.loop-vio.invariant.rest ∙ sym (next_emptied c.args.at.0 c.loop-vio.zone c.in-Some.vio first) ∙ ap (emptied c.args.at.0) (sym c.release.ensures.zone);
      posts = c.loop-vio.invariant.posts ∙ rw (others, c.push.ensures, waiting, c.end-stopped.ensures) (sym (append_assoc c.loop-vio.posts ((id.Desk, item.Request (ended phase.Reply reply.Stopped c.in-Some.vio)) ∷ []) (all_stopped (all_for c.args.at.0 (but_first_for c.args.at.0 c.loop-vio.zone.waiting)))));
    }

pub returns-clause-zone : goal.returns-clause-zone
returns-clause-zone c =
    let none : first_for c.args.at.0 c.loop-vio.zone.waiting ≡ None = sym c.release.ensures.next ∙ c.in_default.is in
    c.release.ensures.zone ∙ last_emptied c.args.at.0 c.loop-vio.zone none ∙ sym c.loop-vio.invariant.rest

pub returns-clause-posts : goal.returns-clause-posts
returns-clause-posts c =
    let none : first_for c.args.at.0 c.loop-vio.zone.waiting ≡ None = sym c.release.ensures.next ∙ c.in_default.is in
    let alone = nobody c.args.at.0 c.loop-vio.zone.waiting none in
    sym (c.loop-vio.invariant.posts ∙ ap (λ (vs : List Vio). c.loop-vio.posts ++ all_stopped vs) alone.0 ∙ append-nil c.loop-vio.posts)
