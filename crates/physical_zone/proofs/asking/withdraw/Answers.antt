use Rattle.std.proofs.Common.{ap, sym, ◌∙◌}
use Rattle.data_vio.specs.declared.items.Vio.{Vio}
use Rattle.physical_zone.proofs.AskingLaws.{has_block, has_receipt, is_claimed, is_now, is_out}
use Rattle.physical_zone.proofs.asking.withdraw.Goals as goal
use Rattle.physical_zone.proofs.asking.withdraw.Goals.{in-Block, in-Nothing}

pub withdraw-requires-clause-out : goal.withdraw-requires-clause-out
withdraw-requires-clause-out c =
    is_out c.args.sizes.now c.args.zone.now c.args.vio c.in-Some.ticket c.take_ticket.new.self.tickets c.begin_next.new.counts c.requires.phase c.in-Some.ensures.some.0 c.begin_next.ensures c.requires.rule

pub withdraw-requires-clause-begun : goal.withdraw-requires-clause-begun
withdraw-requires-clause-begun c = is_now _ _ _ c.begin_next.ensures

pub keep_or_drop-goes-requires : goal.keep_or_drop-goes-requires
keep_or_drop-goes-requires c = λ y own.
    is_claimed c.args.sizes.now c.args.zone.now c.args.vio c.in-Some.ticket c.take_ticket.new.self.tickets c.begin_next.new.counts c.requires.phase c.in-Some.ensures.some.0 c.begin_next.ensures
    c.withdraw.new.self c.in-Block.claim y c.requires.rule c.in-Block.ensures (sym (ap (λ (v : Vio). v.claim) c.in-Some.ensures.some.1) ∙ own)

pub returns : goal.returns
returns c =
    let left = c.take_ticket.new.self in
    elim c.match-withdraw.branch [
      | in-Block w ↦
          has_block c.args.sizes.now c.args.zone.now c.args.vio c.in-Some.ticket left.tickets c.begin_next.new.counts c.requires.phase c.in-Some.ensures.some.0 c.begin_next.ensures
          c.match-withdraw.zone c.withdraw.new.self w.keep_or_drop-goes.new.counts w.in-Block.claim left c.match-withdraw.goes c.go_on.new.posts c.requires.rule c.in-Some.ensures.some.1
          w.in-Block.ensures w.zone-is c.go_on.ensures (λ none. (let kept = w.keep_or_drop-goes.ensures.kept none in (kept.0, w.goes-is ∙ kept.1)))
          (λ y own. (let dropped = w.keep_or_drop-goes.ensures.dropped y own in (dropped.0, w.goes-is ∙ dropped.1)))
      | in-Nothing w ↦
          has_receipt c.args.sizes.now c.args.zone.now c.args.vio c.in-Some.ticket left.tickets c.begin_next.new.counts c.requires.phase c.in-Some.ensures.some.0 c.begin_next.ensures
          c.match-withdraw.zone c.withdraw.new.self w.in-Nothing.receipt left c.match-withdraw.goes c.go_on.new.posts c.in-Some.ensures.some.1
          w.in-Nothing.ensures w.zone-is (w.goes-is ∙ w.refuse-goes.ensures) c.go_on.ensures
    ]
